use Rattle.std.proofs.Common.{ap, map, sym, ◌∙◌}
use Rattle.std.specs.Result.{result_err}
use Rattle.definitions.specs.Refusing.{phrase_tests, term_tests}
use Rattle.query_checks.proofs.Tests.{err_told, first_of}
use Rattle.query_checks.proofs.node_tests.check_phrase.Goals as goal

pub returns-in_err-check_terms : goal.returns-in_err-check_terms
returns-in_err-check_terms c =
    let schema = c.args.schema.now in
    let terms = c.args.terms.now in
    let fault = c.in_err-check_terms.field-0.0 in
    err_told c.from_residual.result fault c.from_residual.ensures.1
    ∙ sym (first_of (term_tests schema (map (λ t. t.1) terms)) (phrase_tests schema terms) fault (sym c.check_terms.ensures ∙ ap result_err c.in_err-check_terms.was))
