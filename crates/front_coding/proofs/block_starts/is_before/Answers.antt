use Rattle.std.proofs.Common.{Option, Some, ap, refl, ◌∙◌}
use Rattle.std.specs.Cmp.Lexicographic.{lists_agrees}
use Rattle.std.specs.Ordering.{is_lt, is_some_and, nat_cmp}
use Rattle.std.specs.declared.cmp.Ordering.{Ordering}
use Rattle.front_coding.proofs.block_starts.is_before.Goals as goal

pub returns : goal.returns
returns c =
    c.lt.ensures
    ∙ ap (λ (o : Option Ordering). is_some_and is_lt o) (lists_agrees {R = nat_cmp} {C = λ x y. Some (nat_cmp x y)} (λ x y. refl) c.args.key.now c.args.first.now)
