use Rattle.std.proofs.Common.{List, ap, arith, replicate, subst, sym, ◌∙◌, ◌≡◌, ℕ}
use Rattle.common.proofs.SetSteps.{empty_set, none_in}
use Rattle.common.specs.BitSets.{AreWords, flags_of}
use Rattle.scorers.proofs.window_bits.WindowBits.new.Goals as goal

pub invariant_of-result : goal.invariant_of-result
invariant_of-result c =
    let items : c.in_ok-vec.field-0.items ≡ replicate 64 0 = c.in_ok-vec.ensures.items_if_clones_equal (λ y same. same) in
    let P : List ℕ → Type 0 = λ ws. AreWords 4096 ws in
    subst P (sym items) (empty_set 4096 (omega arith)).words_are

pub returns : goal.returns
returns c =
    let items : c.in_ok-vec.field-0.items ≡ replicate 64 0 = c.in_ok-vec.ensures.items_if_clones_equal (λ y same. same) in
    ap (flags_of 4096) items ∙ none_in 4096 64
