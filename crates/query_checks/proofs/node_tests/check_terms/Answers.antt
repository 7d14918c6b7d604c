use Rattle.std.proofs.Common.{refl, sym, ◌∙◌}
use Rattle.query_checks.proofs.Tests.{told_tests}
use Rattle.query_checks.proofs.node_tests.check_terms.Goals as goal

pub returns-then-any_is_unknown : goal.returns-then-any_is_unknown
returns-then-any_is_unknown c = sym (told_tests c.args.schema.now c.args.terms.now _ _ _ (sym c.any_is_unknown.ensures ∙ c.if-any_is_unknown.true) refl refl)

pub returns-then-any_is_not_indexed : goal.returns-then-any_is_not_indexed
returns-then-any_is_not_indexed c = sym (told_tests c.args.schema.now c.args.terms.now _ _ _ (sym c.any_is_unknown.ensures ∙ c.if-any_is_unknown.false) (sym c.any_is_not_indexed.ensures ∙ c.if-any_is_not_indexed.true) refl)

pub returns-then-any_is_mismatched : goal.returns-then-any_is_mismatched
returns-then-any_is_mismatched c = sym (told_tests c.args.schema.now c.args.terms.now _ _ _ (sym c.any_is_unknown.ensures ∙ c.if-any_is_unknown.false) (sym c.any_is_not_indexed.ensures ∙ c.if-any_is_not_indexed.false) (sym c.any_is_mismatched.ensures ∙ c.if-any_is_mismatched.true))

pub returns : goal.returns
returns c = sym (told_tests c.args.schema.now c.args.terms.now _ _ _ (sym c.any_is_unknown.ensures ∙ c.if-any_is_unknown.false) (sym c.any_is_not_indexed.ensures ∙ c.if-any_is_not_indexed.false) (sym c.any_is_mismatched.ensures ∙ c.if-any_is_mismatched.false))
