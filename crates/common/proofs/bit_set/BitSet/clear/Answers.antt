use Rattle.std.proofs.Common.{List, ap, arith, false, length, replicate, subst, sym, ◌+◌, ◌/◌, ◌≡◌, ◌∙◌, ℕ}
use Rattle.std.specs.Vec.{vec_len}
use Rattle.common.proofs.BitFlags.{length-flags}
use Rattle.common.proofs.SetSteps.{empty_set, none_in}
use Rattle.common.specs.BitSets.{IsBitSet, flags_of}
use Rattle.common.proofs.bit_set.BitSet.clear.Goals as goal

pub invariant_of-self : goal.invariant_of-self
invariant_of-self c =
    let inside = c.self.inside in
    let are = c.self.invariant.words_are in
    let long : vec_len inside.words ≡ (inside.max_value + 63) / 64 = omega (arith, are.count) in
    let items : c.fill.new.self.items ≡ replicate ((inside.max_value + 63) / 64) 0 = c.fill.ensures.items (λ y same. same) ∙ ap (λ m. replicate {A = ℕ} m 0) long in
    let P : List ℕ → Type 0 = λ ws. IsBitSet inside.max_value ws 0 in
    subst P (sym items) (empty_set inside.max_value are.n_fits)

pub returns : goal.returns
returns c =
    let inside = c.self.inside in
    let many = length-flags inside.max_value inside.words.items in
    ap (flags_of inside.max_value) (c.fill.ensures.items (λ y same. same)) ∙ none_in inside.max_value (vec_len inside.words)
    ∙ ap (λ m. replicate m false) (sym many ∙ ap length c.self.view_is)
