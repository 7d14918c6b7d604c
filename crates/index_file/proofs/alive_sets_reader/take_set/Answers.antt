-- The count that stands first tells how many bytes the set takes.
use Rattle.std.proofs.Common.{◌*◌, ◌+◌, ◌/◌, ◌≡◌, ◌∙◌, ap, arith, inl, inr, length, length-append, take}
use Rattle.std.proofs.lemmas.List.{take_at}
use Rattle.std.proofs.lemmas.Result.{err_from_is_err_and}
use Rattle.layouts.specs.AliveSets.{alive_bytes}
use Rattle.index_file.proofs.SetsBack.{set_length}
use Rattle.index_file.proofs.alive_sets_reader.take_set.Goals as goal

pub returns-in_default-clause-err : goal.returns-in_default-clause-err
returns-in_default-clause-err c = λ other flags rest short same.
    let takes = set_length flags c.args.bytes.now rest c.in_ok-num_docs.field-0-1.now c.in_ok-num_docs.num_docs short same c.in_ok-num_docs.ensures.ok in
    let long : length c.args.bytes.now ≡ length (alive_bytes flags) + length rest = ap length same ∙ length-append (alive_bytes flags) rest in
    let past = c.in_default.ensures.cases in
    omega (arith, takes, long, past)

pub returns-in_err-from_bytes-clause-err : goal.returns-in_err-from_bytes-clause-err
returns-in_err-from_bytes-clause-err c =
    let p = err_from_is_err_and c.from_residual-in_err-from_bytes.result c.from_residual-in_err-from_bytes.ensures.1 in
    rw (p.1, p.2) (λ other flags rest short same.
    let n = 4 + 8 * ((c.in_ok-num_docs.num_docs + 63) / 64) in
    let takes = set_length flags c.args.bytes.now rest c.in_ok-num_docs.field-0-1.now c.in_ok-num_docs.num_docs short same c.in_ok-num_docs.ensures.ok in
    let front : c.in-Some.set.now ≡ alive_bytes flags = c.in-Some.ensures.cases.1 ∙ ap (take n) same ∙ take_at (alive_bytes flags) rest n takes in
    elim c.in_err-from_bytes.ensures.err [
      | inl memory ↦ other memory
      | inr damaged ↦ damaged.1 flags (record { count = short; bytes_are = front })
    ])
