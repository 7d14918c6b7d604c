use Rattle.std.proofs.Common.{Some, ap, ◌∙◌, sym, ◌≡◌, true}
use Rattle.std.proofs.lemmas.Result.{err_from_is_err_and}
use Rattle.definitions.specs.Json.{only_if}
use Rattle.definitions.specs.Values.{pre_tok_str}
use Rattle.layouts.specs.DocumentReading.{leaf, take_pre_tokenized_leaf}
use Rattle.document_values.proofs.Skips.{leaf_taken, no_leaf}
use Rattle.document_values.proofs.heads.tokens_leaf.Goals as goal

pub returns-in_err-rest-clause-err : goal.returns-in_err-rest-clause-err
returns-in_err-rest-clause-err c =
    let may : c.args.tokens ≡ true = c.if-not-tokens.false in
    let p = err_from_is_err_and c.from_residual-in_err-rest.result c.from_residual-in_err-rest.ensures.1 in
    rw (p.1, p.2) (c.in_err-rest.ensures.err.0, ap (λ t. only_if t (take_pre_tokenized_leaf c.args.bytes.now)) may ∙ no_leaf c.args.bytes.now c.in_ok-text.text.now c.in_ok-text.behind.now c.in_ok-text.ensures.ok c.in_err-rest.ensures.err.1)

pub returns-clause-ok : goal.returns-clause-ok
returns-clause-ok c =
    let may : c.args.tokens ≡ true = c.if-not-tokens.false in
    ap (λ t. only_if t (take_pre_tokenized_leaf c.args.bytes.now)) may ∙ leaf_taken c.args.bytes.now c.in_ok-text.text.now c.in_ok-text.behind.now c.in_ok-rest.rest.now c.in_ok-text.ensures.ok c.in_ok-rest.ensures.ok ∙ ap (λ p. Some (leaf (pre_tok_str p.0 p.1), c.in_ok-rest.rest.now)) (sym c.new-found.ensures)
