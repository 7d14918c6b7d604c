use Rattle.std.proofs.Common.{List, ap, arith, replicate, subst, sym, ◌+◌, ◌/◌, ◌≡◌, ◌∙◌, ℕ}
use Rattle.common.proofs.SetSteps.{empty_set, none_in}
use Rattle.common.specs.BitSets.{IsBitSet, flags_of}
use Rattle.common.proofs.bit_set.BitSet.with_max_value.Goals as goal

pub invariant_of-result : goal.invariant_of-result
invariant_of-result c =
    let items : c.in_ok-vec.field-0.items ≡ replicate ((c.args.max_value + 63) / 64) 0 = c.in_ok-vec.ensures.items_if_clones_equal (λ y same. same) ∙ ap (λ m. replicate m 0) c.num_words.ensures in
    let P : List ℕ → Type 0 = λ ws. IsBitSet c.args.max_value ws 0 in
    subst P (sym items) (empty_set c.args.max_value (omega (arith, c.ranges.max_value.fits)))

pub returns : goal.returns
returns c =
    let items : c.in_ok-vec.field-0.items ≡ replicate c.num_words.result 0 = c.in_ok-vec.ensures.items_if_clones_equal (λ y same. same) in
    ap (flags_of c.args.max_value) items ∙ none_in c.args.max_value c.num_words.result
