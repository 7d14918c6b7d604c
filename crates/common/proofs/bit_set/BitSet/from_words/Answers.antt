use Rattle.std.proofs.Common.{List, ap, false, subst, sym, true, rules, slice_index, ◌<◌, ◌≡◌, ◌^◌, ◌∙◌, ℕ}
use Rattle.common.proofs.BitFlags.{length-flags}
use Rattle.common.proofs.FlagWords.{alive_words-flags_of}
use Rattle.common.proofs.SetSteps.{cut_from, cut_set, cut_words_are, not_cut}
use Rattle.common.specs.BitSets.{AreWords, is_cut}
use Rattle.std.specs.Int.RustNames.{count_ones}
use Rattle.std.specs.List.{sum_by}
use Rattle.common.proofs.bit_set.BitSet.from_words.Goals as goal

pub returns-then-not-is_clear_from-clause-none : goal.returns-then-not-is_clear_from-clause-none
returns-then-not-is_clear_from-clause-none c =
    let no : c.is_clear_from.result ≡ false = search rules in
    let bits : is_cut c.args.max_value c.args.words.items ≡ false = ap (is_cut c.args.max_value) (sym c.deref.ensures.value) ∙ sym c.is_clear_from.ensures.cut ∙ no in
    λ flags. not_cut c.args.max_value c.args.words.items flags bits

pub returns-then-not-is_clear_from-clause-small : goal.returns-then-not-is_clear_from-clause-small
returns-then-not-is_clear_from-clause-small c = λ i. (let P : List ℕ → Type 0 = λ ws. slice_index ws i < 2 ^ 64 in subst P c.deref.ensures.value (c.is_clear_from.ensures.small i))

pub invariant_of-result : goal.invariant_of-result
invariant_of-result c =
    let yes : c.is_clear_from.result ≡ true = search rules in
    let bits : is_cut c.args.max_value c.args.words.items ≡ true = ap (is_cut c.args.max_value) (sym c.deref.ensures.value) ∙ sym c.is_clear_from.ensures.cut ∙ yes in
    let small : (i : ℕ) → slice_index c.args.words.items i < 2 ^ 64 = λ i. (let P : List ℕ → Type 0 = λ ws. slice_index ws i < 2 ^ 64 in subst P c.deref.ensures.value (c.is_clear_from.ensures.small i)) in
    let are = cut_words_are c.args.max_value c.args.words.items c.ranges.max_value.fits c.requires small (cut_from c.args.max_value c.args.words.items bits) in
    cut_set c.args.max_value c.count_bits-len.result c.args.words.items are (c.count_bits-len.ensures ∙ ap (λ ws. sum_by count_ones ws) c.deref-2.ensures.value)

pub returns-clause-some : goal.returns-clause-some
returns-clause-some c =
    let yes : c.is_clear_from.result ≡ true = search rules in
    let bits : is_cut c.args.max_value c.args.words.items ≡ true = ap (is_cut c.args.max_value) (sym c.deref.ensures.value) ∙ sym c.is_clear_from.ensures.cut ∙ yes in
    let small : (i : ℕ) → slice_index c.args.words.items i < 2 ^ 64 = λ i. (let P : List ℕ → Type 0 = λ ws. slice_index ws i < 2 ^ 64 in subst P c.deref.ensures.value (c.is_clear_from.ensures.small i)) in
    let are : AreWords c.args.max_value c.args.words.items = cut_words_are c.args.max_value c.args.words.items c.ranges.max_value.fits c.requires small (cut_from c.args.max_value c.args.words.items bits) in
    (length-flags c.args.max_value c.args.words.items, alive_words-flags_of c.args.max_value c.args.words.items are)

pub returns-clause-small : goal.returns-clause-small
returns-clause-small c = λ i. (let P : List ℕ → Type 0 = λ ws. slice_index ws i < 2 ^ 64 in subst P c.deref.ensures.value (c.is_clear_from.ensures.small i))
