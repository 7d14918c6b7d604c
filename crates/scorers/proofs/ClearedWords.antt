-- Laws of words of a window that are cleared.
use Rattle.std.proofs.Common.{◌%◌, ◌*◌, ◌+◌, ◌/◌, ◌<◌, ◌^◌, ◌∙◌, ◌≡◌, ◌≢◌, ◌≤◌, ◌⊎◌, Bool, List, ap, arith, bit_and, false, inl, inr, length, min, refl, set, slice_index_or, suc, sym, zero, ℕ}
use Rattle.std.proofs.lemmas.Bool.{cases_eq}
use Rattle.std.proofs.lemmas.List.{get_or-set_other, get_or-set_same, length-set}
use Rattle.std.proofs.lemmas.Nat.{and_le_l}
use Rattle.std.proofs.lemmas.Nat.Bits.{bit_at-lt, bit_at-trailing_zeros, bit_at-zero, bit_at_and, bit_at_clear_other, bit_at_clear_same}
use Rattle.std.specs.Int.{bit_at, bit_not, trailing_zeros, w64}
use Rattle.scorers.specs.Windows.{IsCleared, IsClearing, IsSameFrom, IsTaken}
use Rattle.scorers.specs.ClearedWords.{bit_mask}

all-zeros : trailing_zeros w64 0 ≡ 64
unfolding lib.Count.count_trailing_zeros
all-zeros = refl

-- the index that is cleared next is below the limit
pub next-below : (at limit left : ℕ) → left < 2 ^ 64 → 64 * at < limit → ((j : ℕ) → bit_at left j ≡ 1 → 64 * at + j < limit) → 64 * at + trailing_zeros w64 left % 64 < limit
next-below at limit zero small some below = omega (arith, all-zeros, some)
next-below at limit (suc more) small some below =
    let bits = bit_at-trailing_zeros w64 (suc more) (omega arith) small in
    let fits : trailing_zeros w64 (suc more) < 64 = bits.0 in
    let here = below (trailing_zeros w64 (suc more)) bits.1 in
    omega (arith, fits, here)

pub clearing-step : {C : Type 0} (answer : C → List ℕ → ℕ) (total : C → ℕ) (fresh : C) (at limit k : ℕ) (flags : List Bool) (slots : List C) (slots_then : List C) (left : ℕ) → IsClearing answer total fresh at limit flags slots slots_then left → k < 64 → 64 * at + k < limit → 64 * at + k < length slots_then → IsClearing answer total fresh at limit flags slots (set slots_then (64 * at + k) fresh) (bit_and left (bit_not w64 (bit_mask k)))
clearing-step answer total fresh at limit k flags slots slots_then left c within before room = record {
  small = (let less = and_le_l left (bit_not w64 (bit_mask k)) in let small = c.small in omega (arith, less, small));
  long = length-set slots_then (64 * at + k) fresh ∙ c.long;
  past = λ i l. get_or-set_other slots_then (64 * at + k) i fresh fresh (λ (same : i ≡ 64 * at + k). omega (arith, same, l, before)) ∙ c.past i l;
  below = λ j on. c.below j (kept j on);
  totals = λ i off clear. totals i off clear (cases_eq i (64 * at + k));
  answers = λ i xs off clear. answers i xs off clear (cases_eq i (64 * at + k));
}
  where
    kept : (j : ℕ) → bit_at (bit_and left (bit_not w64 (bit_mask k))) j ≡ 1 → bit_at left j ≡ 1
    kept j on =
        let both = bit_at_and left (bit_not w64 (bit_mask k)) j in
        let most = bit_at-lt left j in
        let one : min (bit_at left j) (bit_at (bit_not w64 (bit_mask k)) j) ≡ 1 = sym both ∙ on in
        omega (arith, one, most)

    here : (i : ℕ) → i ≡ 64 * at + k → slice_index_or (set slots_then (64 * at + k) fresh) i fresh ≡ fresh
    here i same = ap (λ j. slice_index_or (set slots_then (64 * at + k) fresh) j fresh) same ∙ get_or-set_same slots_then (64 * at + k) fresh fresh room

    clear_before : (i : ℕ) → i ≢ 64 * at + k → (i / 64 ≡ at → bit_at (bit_and left (bit_not w64 (bit_mask k))) (i % 64) ≡ 0) → i / 64 ≡ at → bit_at left (i % 64) ≡ 0
    clear_before i apart clear same =
        let bit : i % 64 ≢ k = (λ (e : i % 64 ≡ k). apart (omega (arith, e, same))) in
        sym (bit_at_clear_other w64 left k within (i % 64) (omega arith) bit) ∙ clear same

    totals : (i : ℕ) → slice_index_or flags i false ≡ false → (i / 64 ≡ at → bit_at (bit_and left (bit_not w64 (bit_mask k))) (i % 64) ≡ 0) → (i ≡ 64 * at + k) ⊎ (i ≡ 64 * at + k → ⊥) → total (slice_index_or (set slots_then (64 * at + k) fresh) i fresh) ≡ total fresh
    totals i off clear (inl same) = ap total (here i same)
    totals i off clear (inr apart) = ap total (get_or-set_other slots_then (64 * at + k) i fresh fresh apart) ∙ c.totals i off (clear_before i apart clear)

    answers : (i : ℕ) (xs : List ℕ) → slice_index_or flags i false ≡ false → (i / 64 ≡ at → bit_at (bit_and left (bit_not w64 (bit_mask k))) (i % 64) ≡ 0) → (i ≡ 64 * at + k) ⊎ (i ≡ 64 * at + k → ⊥) → answer (slice_index_or (set slots_then (64 * at + k) fresh) i fresh) xs ≡ answer fresh xs
    answers i xs off clear (inl same) = ap (λ s. answer s xs) (here i same)
    answers i xs off clear (inr apart) = ap (λ s. answer s xs) (get_or-set_other slots_then (64 * at + k) i fresh fresh apart) ∙ c.answers i xs off (clear_before i apart clear)

-- a bit less
pub left-smaller : (left : ℕ) → left < 2 ^ 64 → bit_and left (bit_not w64 (bit_mask (trailing_zeros w64 left % 64))) ≢ 0 → bit_and left (bit_not w64 (bit_mask (trailing_zeros w64 left % 64))) < left
left-smaller left small some =
    let less = and_le_l left (bit_not w64 (bit_mask (trailing_zeros w64 left % 64))) in
    let positive : 0 < left = omega (arith, less, some) in
    let bits = bit_at-trailing_zeros w64 left positive small in
    let fits : trailing_zeros w64 left < 64 = bits.0 in
    let same_index : trailing_zeros w64 left % 64 ≡ trailing_zeros w64 left = omega (arith, fits) in
    let gone : bit_at (bit_and left (bit_not w64 (bit_mask (trailing_zeros w64 left % 64)))) (trailing_zeros w64 left % 64) ≡ 0 = bit_at_clear_same w64 left (trailing_zeros w64 left % 64) (omega arith) in
    let on : bit_at left (trailing_zeros w64 left % 64) ≡ 1 = ap (bit_at left) same_index ∙ bits.1 in
    go less (cases_eq (bit_and left (bit_not w64 (bit_mask (trailing_zeros w64 left % 64)))) left) gone on
  where
    go : bit_and left (bit_not w64 (bit_mask (trailing_zeros w64 left % 64))) ≤ left → (bit_and left (bit_not w64 (bit_mask (trailing_zeros w64 left % 64))) ≡ left) ⊎ (bit_and left (bit_not w64 (bit_mask (trailing_zeros w64 left % 64))) ≡ left → ⊥) → bit_at (bit_and left (bit_not w64 (bit_mask (trailing_zeros w64 left % 64)))) (trailing_zeros w64 left % 64) ≡ 0 → bit_at left (trailing_zeros w64 left % 64) ≡ 1 → bit_and left (bit_not w64 (bit_mask (trailing_zeros w64 left % 64))) < left
    go less (inl same) gone on = absurd (let both = ap (λ n. bit_at n (trailing_zeros w64 left % 64)) same in omega (arith, both, gone, on))
    go less (inr apart) gone on = omega (arith, less, apart)

-- the word is cleared
pub clearing-end : {C : Type 0} (answer : C → List ℕ → ℕ) (total : C → ℕ) (fresh : C) (at limit : ℕ) (flags : List Bool) (slots : List C) (flags_then : List Bool) (slots_then : List C) (bits left : ℕ) → IsCleared answer total flags slots fresh (64 * at) → IsTaken at limit flags flags_then bits → IsClearing answer total fresh at limit flags_then slots slots_then left → left ≡ 0 → IsSameFrom fresh limit flags slots flags_then slots_then × IsCleared answer total flags_then slots_then fresh (min (64 * at + 64) limit)
clearing-end answer total fresh at limit flags slots flags_then slots_then bits left c t g none = (
  record { flags_fit = t.long; slots_fit = g.long; flag = t.past; slot = g.past },
  record {
    totals = λ k off. g.totals k off (λ same. empty k);
    answers = λ k xs off. g.answers k xs off (λ same. empty k);
    passed = λ k l. passed k l (cases_eq (k / 64) at);
  },
)
  where
    empty : (k : ℕ) → bit_at left (k % 64) ≡ 0
    empty k = ap (λ n. bit_at n (k % 64)) none ∙ bit_at-zero (k % 64)

    passed : (k : ℕ) → k < min (64 * at + 64) limit → (k / 64 ≡ at) ⊎ (k / 64 ≡ at → ⊥) → slice_index_or flags_then k false ≡ false
    passed k l (inl same) = t.off k same (omega (arith, l))
    passed k l (inr other) = t.others k other ∙ c.passed k (omega (arith, l, other))
