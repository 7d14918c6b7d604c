use Rattle.std.proofs.Common.{◌==◌, ◌∙◌, ap, sym, slice_get}
use Rattle.std.specs.List.{after_first}
use Rattle.terms.proofs.TextKeys.{first_is, first_none}
use Rattle.terms.proofs.text_keys.is_text_leaf.Goals as goal

pub returns-in-Some : goal.returns-in-Some
returns-in-Some c = first_is (after_first (◌==◌ 0) c.args.key.now) c.in-Some.code.now (ap (λ leaf. slice_get leaf 0) (sym c.leaf_of.ensures) ∙ sym c.in-Some.ensures.value)

pub returns-in-None : goal.returns-in-None
returns-in-None c = first_none (after_first (◌==◌ 0) c.args.key.now) (ap (λ leaf. slice_get leaf 0) (sym c.leaf_of.ensures) ∙ sym c.in-None.ensures.value)
