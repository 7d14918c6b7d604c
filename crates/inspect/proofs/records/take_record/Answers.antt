use Rattle.std.proofs.Common.{List, ap, rules, ◌<◌, ◌^◌, ◌∙◌, ◌∷◌, ◌≡◌, ℕ}
use Rattle.std.proofs.lemmas.Result.{err_from_is_err_and}
use Rattle.inspect.proofs.Framed.{framed, no_body}
use Rattle.inspect.proofs.records.take_record.Goals as goal

pub returns-in_err-len-clause-err : goal.returns-in_err-len-clause-err
returns-in_err-len-clause-err c =
    let p = err_from_is_err_and c.from_residual-in_err-len.result c.from_residual-in_err-len.ensures.1 in
    let first : c.args.bytes.now ≡ c.in_ok-_gate._gate.now ∷ c.in_ok-_gate.rest.now = search rules in
    rw p.1 (λ gate rest body is. no_body c.args.bytes.now rest body c.in_ok-_gate._gate.now gate c.in_ok-_gate.rest.now first is c.in_err-len.ensures.err)

pub returns-clause-ok : goal.returns-clause-ok
returns-clause-ok c =
    let first : c.args.bytes.now ≡ c.in_ok-_gate._gate.now ∷ c.in_ok-_gate.rest.now = search rules in
    let is = c.in_ok-len.ensures.ok in
    let small : c.in_ok-len.len < 2 ^ 64 = search rules in
    let found = framed c.in_ok-_gate.rest.now c.in_ok-len.behind.now c.split_at.result.0.now c.split_at.result.1.now c.in_ok-len.len is.1 small is.0 c.split_at.ensures.front c.split_at.ensures.back in
    (c.in_ok-_gate._gate.now, first ∙ ap (λ (l : List ℕ). c.in_ok-_gate._gate.now ∷ l) found.0, found.1.0, found.1.1)
