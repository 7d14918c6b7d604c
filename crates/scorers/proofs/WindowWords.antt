-- The words of a window's documents: what a document more or less changes.
use Rattle.std.proofs.Common.{Bool, List, None, Option, Some, ap, arith, bit_and, bit_or, false, get_or, inl, inr, length, min, nat_eq, refl, subst, suc, sym, true, zero, ◌%◌, ◌*◌, ◌+◌, ◌-◌, ◌/◌, ◌<◌, ◌^◌, ◌∙◌, ◌≡◌, ◌≢◌, ◌≤◌, ◌⊎◌, ℕ}
use Rattle.std.proofs.Math.Pow.{pow_mono}
use Rattle.std.proofs.lemmas.Bool.{cases_eq, cases_lt, eqb-true}
use Rattle.std.proofs.lemmas.List.{get_or-set_other, get_or-set_same, length-set}
use Rattle.std.proofs.lemmas.Grind.{get_or_default_zero}
use Rattle.std.proofs.lemmas.Nat.{and_le_l, mod_below, or_lt, pow_pos, shr_split}
use Rattle.std.proofs.lemmas.Nat.Bits.{bit_at-lt, bit_at-suc, bit_at-trailing_zeros, bit_at-zero, bit_at_above, bit_at_and, bit_at_cat_high, bit_at_cat_low, bit_at_clear_other, bit_at_clear_same, bit_at_lowest, bit_at_not, bit_at_ones, bit_at_ones_above, bit_at_set_other, bit_at_set_same, same_from_bits, same_from_bits_below}
use Rattle.std.specs.Int.{bit_at, bit_not, trailing_zeros, w64}
use Rattle.common.proofs.BitFlags.{Changes, flag_is, flags-at, flags-changed, length-flags, words-changed}
use Rattle.common.proofs.FirstBits.{NoneIn, first_later, first_same, none_after, none_more}
use Rattle.common.proofs.SetSteps.{mask, seen_flag, seen_length, word_inside}
use Rattle.common.specs.BitSets.{AreWords, IsFirst, flag_at, flags_of}
use Rattle.scorers.specs.Windows.{IsLowest, IsTaken}
use lib.ListN.{set}

set_changes : (el word : ℕ) (words : List ℕ) → AreWords 4096 words → el < 4096 → word ≡ get_or words (el / 64) word → Changes words el (bit_or word (mask el)) true
set_changes el word words are below found =
    let within : el / 64 < length words = word_inside 4096 el words are below in
    let read : word ≡ get_or words (el / 64) 0 = found ∙ get_or_default_zero words (el / 64) word within in
    let P : ℕ → Type 0 = λ w. w < 2 ^ 64 in
    let small : word < 2 ^ 64 = subst P (sym read) (are.small (el / 64)) in
    let bit : el % 64 < 64 = omega arith in
    record {
      within = within;
      small = or_lt 64 word (mask el) small (omega arith);
      here = ap (λ b. nat_eq b 1) (bit_at_set_same w64 word (el % 64) bit);
      others = λ k inside other. bit_at_set_other w64 word (el % 64) bit k other ∙ ap (λ w. bit_at w k) read;
    }

clear_changes : (el word : ℕ) (words : List ℕ) → AreWords 4096 words → el < 4096 → word ≡ get_or words (el / 64) word → Changes words el (bit_and word (bit_not w64 (mask el))) false
clear_changes el word words are below found =
    let within : el / 64 < length words = word_inside 4096 el words are below in
    let read : word ≡ get_or words (el / 64) 0 = found ∙ get_or_default_zero words (el / 64) word within in
    let P : ℕ → Type 0 = λ w. w < 2 ^ 64 in
    let small : word < 2 ^ 64 = subst P (sym read) (are.small (el / 64)) in
    let bit : el % 64 < 64 = omega arith in
    let less = and_le_l word (bit_not w64 (mask el)) in
    record {
      within = within;
      small = omega arith;
      here = ap (λ b. nat_eq b 1) (bit_at_clear_same w64 word (el % 64) bit);
      others = λ k inside other. bit_at_clear_other w64 word (el % 64) bit k inside other ∙ ap (λ w. bit_at w k) read;
    }

pub set_words : (el word : ℕ) (words : List ℕ) → AreWords 4096 words → el < 4096 → word ≡ get_or words (el / 64) word → AreWords 4096 (set words (el / 64) (bit_or word (mask el)))
set_words el word words are below found = words-changed 4096 words el (bit_or word (mask el)) true are below (set_changes el word words are below found)

pub set_flags : (el word : ℕ) (words : List ℕ) → AreWords 4096 words → el < 4096 → word ≡ get_or words (el / 64) word → flags_of 4096 (set words (el / 64) (bit_or word (mask el))) ≡ set (flags_of 4096 words) el true
set_flags el word words are below found = flags-changed 4096 words el (bit_or word (mask el)) true are below (set_changes el word words are below found)

clear_flags : (el word : ℕ) (words : List ℕ) → AreWords 4096 words → el < 4096 → word ≡ get_or words (el / 64) word → flags_of 4096 (set words (el / 64) (bit_and word (bit_not w64 (mask el)))) ≡ set (flags_of 4096 words) el false
clear_flags el word words are below found = flags-changed 4096 words el (bit_and word (bit_not w64 (mask el))) false are below (clear_changes el word words are below found)

-- ---- the first from a word on

pub skip_word : (words : List ℕ) (flags : List Bool) (from i : ℕ) → AreWords 4096 words → flags_of 4096 words ≡ flags → NoneIn (λ k. get_or flags k false) from (64 * i) → get_or words i 0 ≡ 0 → NoneIn (λ k. get_or flags k false) from (64 * (i + 1))
skip_word words flags from i are shows none zero_word n from_on before =
    sym (seen_flag 4096 n words flags are shows) ∙ none_more words from i (λ m a b. seen_flag 4096 m words flags are shows ∙ none m a b) zero_word n from_on before

pub found_word : (words : List ℕ) (flags : List Bool) (from i word : ℕ) → AreWords 4096 words → flags_of 4096 words ≡ flags → NoneIn (λ k. get_or flags k false) from (64 * i) → from ≤ 64 * i → word ≡ get_or words i 0 → word ≢ 0 → IsFirst (λ k. get_or flags k false) from (Some (64 * i + trailing_zeros w64 word))
found_word words flags from i word are shows none later is some =
    let P : ℕ → Type 0 = λ w. w < 2 ^ 64 in
    first_same (flag_at words) (λ k. get_or flags k false) from (Some (64 * i + trailing_zeros w64 word)) (λ k. seen_flag 4096 k words flags are shows)
    (first_later words from i word (trailing_zeros w64 word) (λ m a b. seen_flag 4096 m words flags are shows ∙ none m a b) later is (subst P (sym is) (are.small i)) some refl)

pub no_word : (words : List ℕ) (flags : List Bool) (from i : ℕ) → AreWords 4096 words → flags_of 4096 words ≡ flags → NoneIn (λ k. get_or flags k false) from (64 * i) → length words ≤ i → IsFirst (λ k. get_or flags k false) from None
no_word words flags from i are shows none all =
    first_same (flag_at words) (λ k. get_or flags k false) from None (λ k. seen_flag 4096 k words flags are shows)
    (none_after words from i (λ m a b. seen_flag 4096 m words flags are shows ∙ none m a b) all)

-- ---- the numbers of a word below a limit

-- a mask of the low bits of a word
record IsMask (at limit mask m : ℕ) : Type 0 where
  pub is : mask ≡ 2 ^ m - 1
  pub many : m ≡ min (limit - 64 * at) 64
  pub some : 64 * at < limit

mask_small : (at limit mask m : ℕ) → IsMask at limit mask m → mask < 2 ^ 64
mask_small at limit mask m k =
    let is = k.is in
    let many = k.many in
    let most : 2 ^ m ≤ 2 ^ 64 = pow_mono (let short : m ≤ 64 = omega (arith, many) in short) in
    let positive = pow_pos m in
    omega (arith, is, most, positive)

taken_low : (at limit mask m word j : ℕ) → IsMask at limit mask m → j < m → bit_at (bit_and word mask) j ≡ bit_at word j
taken_low at limit mask m word j k l =
    let both = bit_at_and word mask j in
    let one : bit_at mask j ≡ 1 = ap (λ n. bit_at n j) k.is ∙ bit_at_ones m j l in
    let most = bit_at-lt word j in
    let goal : min (bit_at word j) (bit_at mask j) ≡ bit_at word j = omega (arith, one, most) in
    both ∙ goal

taken_high : (at limit mask m word j : ℕ) → IsMask at limit mask m → m ≤ j → bit_at (bit_and word mask) j ≡ 0
taken_high at limit mask m word j k l =
    let both = bit_at_and word mask j in
    let none : bit_at mask j ≡ 0 = ap (λ n. bit_at n j) k.is ∙ bit_at_ones_above m j l in
    let goal : min (bit_at word j) (bit_at mask j) ≡ 0 = omega (arith, none) in
    both ∙ goal

left_low : (at limit mask m word j : ℕ) → IsMask at limit mask m → j < m → j < 64 → bit_at (bit_and word (bit_not w64 mask)) j ≡ 0
left_low at limit mask m word j k l within =
    let both = bit_at_and word (bit_not w64 mask) j in
    let one : bit_at mask j ≡ 1 = ap (λ n. bit_at n j) k.is ∙ bit_at_ones m j l in
    let negated = bit_at_not w64 mask j (mask_small at limit mask m k) within in
    let goal : min (bit_at word j) (bit_at (bit_not w64 mask) j) ≡ 0 = omega (arith, one, negated) in
    both ∙ goal

left_high : (at limit mask m word j : ℕ) → IsMask at limit mask m → m ≤ j → j < 64 → bit_at (bit_and word (bit_not w64 mask)) j ≡ bit_at word j
left_high at limit mask m word j k l within =
    let both = bit_at_and word (bit_not w64 mask) j in
    let none : bit_at mask j ≡ 0 = ap (λ n. bit_at n j) k.is ∙ bit_at_ones_above m j l in
    let negated = bit_at_not w64 mask j (mask_small at limit mask m k) within in
    let most = bit_at-lt word j in
    let goal : min (bit_at word j) (bit_at (bit_not w64 mask) j) ≡ bit_at word j = omega (arith, none, negated, most) in
    both ∙ goal

flag-other : (words : List ℕ) (at word i : ℕ) → i / 64 ≢ at → flag_at (set words at word) i ≡ flag_at words i
flag-other words at word i other =
    flag_is (set words at word) i
    ∙ ap (λ w. nat_eq (bit_at w (i % 64)) 1) (get_or-set_other words at (i / 64) word 0 other)
    ∙ sym (flag_is words i)

flag-same : (words : List ℕ) (at word i : ℕ) → at < length words → i / 64 ≡ at → flag_at (set words at word) i ≡ nat_eq (bit_at word (i % 64)) 1
flag-same words at word i within same =
    flag_is (set words at word) i
    ∙ ap (λ w. nat_eq (bit_at w (i % 64)) 1) (ap (λ j. get_or (set words at word) j 0) same ∙ get_or-set_same words at word 0 within)

flag-was : (words : List ℕ) (at word i : ℕ) → word ≡ get_or words at 0 → i / 64 ≡ at → flag_at words i ≡ nat_eq (bit_at word (i % 64)) 1
flag-was words at word i read same = flag_is words i ∙ ap (λ w. nat_eq (bit_at w (i % 64)) 1) (ap (λ j. get_or words j 0) same ∙ sym read)

words_set : (words : List ℕ) (at word : ℕ) → AreWords 4096 words → at < 64 → word < 2 ^ 64 → AreWords 4096 (set words at word)
words_set words at word are within fits = record {
  n_fits = are.n_fits;
  count = length-set words at word ∙ are.count;
  small = λ i. small i (cases_eq i at);
  clear = λ i past. flag-other words at word i (λ (same : i / 64 ≡ at). omega (arith, same, past, within)) ∙ are.clear i past;
}
  where
    small : (i : ℕ) → (i ≡ at) ⊎ (i ≡ at → ⊥) → get_or (set words at word) i 0 < 2 ^ 64
    small i (inl same) = (let long : length words ≡ 64 = are.count in let e : get_or (set words at word) i 0 ≡ word = ap (λ j. get_or (set words at word) j 0) same ∙ get_or-set_same words at word 0 (omega (arith, long, within)) in let P : ℕ → Type 0 = λ w. w < 2 ^ 64 in subst P (sym e) fits)
    small i (inr other) = (let e : get_or (set words at word) i 0 ≡ get_or words i 0 = get_or-set_other words at i word 0 other in let P : ℕ → Type 0 = λ w. w < 2 ^ 64 in subst P (sym e) (are.small i))

pub taken : (words : List ℕ) (flags : List Bool) (at limit word mask m : ℕ) → AreWords 4096 words → flags_of 4096 words ≡ flags → at < 64 → word ≡ get_or words at word → 64 * at < limit → mask ≡ 2 ^ m - 1 → m ≡ min (limit - 64 * at) 64 → AreWords 4096 (set words at (bit_and word (bit_not w64 mask))) × IsTaken at limit flags (flags_of 4096 (set words at (bit_and word (bit_not w64 mask)))) (bit_and word mask)
taken words flags at limit word mask m are shows at_small found some is many = (
  are_then,
  record {
    long = length-flags 4096 words_then ∙ seen_length 4096 words flags shows;
    past = λ k l. past k l (cases_eq (k / 64) at);
    others = λ k other. flags-at 4096 words_then k are_then ∙ flag-other words at left k other ∙ seen_flag 4096 k words flags are shows;
    off = λ k same l. flags-at 4096 words_then k are_then ∙ flag-same words at left k within same ∙ ap (λ b. nat_eq b 1) (left_low at limit mask m word (k % 64) is_mask (omega (arith, same, l, many)) (omega arith));
    none = λ k same z l. sym (seen_flag 4096 k words flags are shows) ∙ flag-was words at word k read same ∙ ap (λ b. nat_eq b 1) (sym (taken_low at limit mask m word (k % 64) is_mask (omega (arith, same, l, many))) ∙ z);
    below = λ j on. below j on (cases_lt j m);
  },
)
  where
    is_mask : IsMask at limit mask m
    is_mask = record { is = is; many = many; some = some }

    left : ℕ
    left = bit_and word (bit_not w64 mask)

    words_then : List ℕ
    words_then = set words at left

    within : at < length words
    within = (let long : length words ≡ 64 = are.count in omega (arith, long, at_small))

    read : word ≡ get_or words at 0
    read = found ∙ get_or_default_zero words at word within

    left_small : left < 2 ^ 64
    left_small = (let less = and_le_l word (bit_not w64 mask) in let P : ℕ → Type 0 = λ w. w < 2 ^ 64 in let small : word < 2 ^ 64 = subst P (sym read) (are.small at) in omega (arith, less, small))

    are_then : AreWords 4096 words_then
    are_then = words_set words at left are at_small left_small

    past : (k : ℕ) → limit ≤ k → (k / 64 ≡ at) ⊎ (k / 64 ≡ at → ⊥) → get_or (flags_of 4096 words_then) k false ≡ get_or flags k false
    past k l (inr other) = flags-at 4096 words_then k are_then ∙ flag-other words at left k other ∙ seen_flag 4096 k words flags are shows
    past k l (inl same) = flags-at 4096 words_then k are_then ∙ flag-same words at left k within same ∙ ap (λ b. nat_eq b 1) (left_high at limit mask m word (k % 64) is_mask (omega (arith, same, l, many, some)) (omega arith)) ∙ sym (flag-was words at word k read same) ∙ seen_flag 4096 k words flags are shows

    below : (j : ℕ) → bit_at (bit_and word mask) j ≡ 1 → (j < m) ⊎ (m ≤ j) → 64 * at + j < limit
    below j on (inl l) = omega (arith, l, many, some)
    below j on (inr past) = absurd (let none = taken_high at limit mask m word j is_mask past in omega (arith, none, on))

-- ---- the least number of a word

bit-none : (b : ℕ) → b < 2 → nat_eq b 1 ≡ false → b ≡ 0
bit-none zero l e = refl
bit-none (suc zero) l e = absurd (cc)
bit-none (suc (suc b)) l e = absurd (omega (arith, l))

lowest-index : (word k : ℕ) → word < 2 ^ 64 → k < 64 → bit_at word k ≡ 1 → ((j : ℕ) → j < k → bit_at word j ≡ 0) → trailing_zeros w64 word % 64 ≡ k
lowest-index zero k small within on lowest = absurd (let none = bit_at-zero k in omega (arith, none, on))
lowest-index (suc more) k small within on lowest = go (cases_lt (trailing_zeros w64 (suc more)) k) (cases_lt k (trailing_zeros w64 (suc more)))
  where
    go : (trailing_zeros w64 (suc more) < k) ⊎ (k ≤ trailing_zeros w64 (suc more)) → (k < trailing_zeros w64 (suc more)) ⊎ (trailing_zeros w64 (suc more) ≤ k) → trailing_zeros w64 (suc more) % 64 ≡ k
    go (inl before) any = absurd (let bits = bit_at-trailing_zeros w64 (suc more) (omega arith) small in let one = bits.1 in let none = lowest (trailing_zeros w64 (suc more)) before in omega (arith, one, none))
    go (inr o) (inl after) = absurd (let bits = bit_at-trailing_zeros w64 (suc more) (omega arith) small in let none = bits.2 k after in omega (arith, on, none))
    go (inr o) (inr u) = omega (arith, o, u, within)

pub words_less : (words : List ℕ) (at word other : ℕ) → AreWords 4096 words → at < 64 → word ≡ get_or words at word → AreWords 4096 (set words at (bit_and word other))
words_less words at word other are at_small found =
    let within : at < length words = (let long : length words ≡ 64 = are.count in omega (arith, long, at_small)) in
    let read : word ≡ get_or words at 0 = found ∙ get_or_default_zero words at word within in
    let P : ℕ → Type 0 = λ w. w < 2 ^ 64 in
    let small : word < 2 ^ 64 = subst P (sym read) (are.small at) in
    let less = and_le_l word other in
    words_set words at (bit_and word other) are at_small (omega (arith, less, small))

pub found_left : (words : List ℕ) (at left : ℕ) → AreWords 4096 (set words at left) → length words ≡ 64 → at < 64 → left ≢ 0 → IsFirst (λ k. get_or (flags_of 4096 (set words at left)) k false) (64 * at) (Some (64 * at + trailing_zeros w64 left))
found_left words at left are long at_small some =
    found_word (set words at left) (flags_of 4096 (set words at left)) (64 * at) at left are refl (λ n a b. absurd (omega (arith, a, b))) (omega arith) (sym (get_or-set_same words at left 0 (omega (arith, long, at_small)))) some

pub found_later : (words : List ℕ) (at left : ℕ) (r : Option ℕ) → AreWords 4096 (set words at left) → length words ≡ 64 → at < 64 → left ≡ 0 → IsFirst (λ k. get_or (flags_of 4096 (set words at left)) k false) (64 * ((64 * at + 64) / 64)) r → IsFirst (λ k. get_or (flags_of 4096 (set words at left)) k false) (64 * at) r
found_later words at left r are long at_small zero_left first = go r first
  where
    none : NoneIn (λ k. get_or (flags_of 4096 (set words at left)) k false) (64 * at) (64 * (at + 1))
    none = skip_word (set words at left) (flags_of 4096 (set words at left)) (64 * at) at are refl (λ n a b. absurd (omega (arith, a, b))) (get_or-set_same words at left 0 (omega (arith, long, at_small)) ∙ zero_left)

    go : (r : Option ℕ) → IsFirst (λ k. get_or (flags_of 4096 (set words at left)) k false) (64 * ((64 * at + 64) / 64)) r → IsFirst (λ k. get_or (flags_of 4096 (set words at left)) k false) (64 * at) r
    go None f = λ k o. early k o (cases_lt k (64 * (at + 1)))
      where
        early : (k : ℕ) → 64 * at ≤ k → (k < 64 * (at + 1)) ⊎ (64 * (at + 1) ≤ k) → get_or (flags_of 4096 (set words at left)) k false ≡ false
        early k o (inl l) = none k o l
        early k o (inr l) = f k (omega (arith, l))
    go (Some next) f = ((let later = f.0 in omega (arith, later)), f.1, λ k o b. early k o b (cases_lt k (64 * (at + 1))))
      where
        early : (k : ℕ) → 64 * at ≤ k → k < next → (k < 64 * (at + 1)) ⊎ (64 * (at + 1) ≤ k) → get_or (flags_of 4096 (set words at left)) k false ≡ false
        early k o b (inl l) = none k o l
        early k o b (inr l) = f.2 k (omega (arith, l)) b

-- ---- a word and one less

-- nothing is below the lowest bit
low-none : (word t : ℕ) → ((i : ℕ) → i < t → bit_at word i ≡ 0) → word % 2 ^ t ≡ 0
low-none word t none = same_from_bits (word % 2 ^ t) 0 (λ i. go i (cases_lt i t) ∙ sym (bit_at-zero i))
  where
    go : (i : ℕ) → (i < t) ⊎ (t ≤ i) → bit_at (word % 2 ^ t) i ≡ 0
    go i (inl l) = sym (bit_at_cat_low (word / 2 ^ t) t (word % 2 ^ t) i l) ∙ (ap (λ n. bit_at n i) (shr_split word t) ∙ none i l)
    go i (inr o) = bit_at_above (word % 2 ^ t) t i (mod_below word (2 ^ t) (pow_pos t)) o

less-one : (n x : ℕ) → 0 < x → (n + 1) * x - 1 ≡ n * x + (x - 1)
less-one n x l = omega (arith, l)

-- one less has the bits of the odd part below its lowest
less-bits : (word t n i : ℕ) → word / 2 ^ t ≡ n + 1 → word % 2 ^ t ≡ 0 → word - 1 ≡ n * 2 ^ t + (2 ^ t - 1)
less-bits word t n i q r =
    let parts = shr_split word t in
    let same : word ≡ (n + 1) * 2 ^ t = sym parts ∙ (ap (λ m. m * 2 ^ t + word % 2 ^ t) q ∙ (let goal : (n + 1) * 2 ^ t + word % 2 ^ t ≡ (n + 1) * 2 ^ t = omega (arith, r) in goal)) in
    ap (λ w. w - 1) same ∙ less-one n (2 ^ t) (pow_pos t)

half-even : (n j : ℕ) → n % 2 ≡ 0 → bit_at (n + 1) (suc j) ≡ bit_at n (suc j)
half-even n j e = bit_at-suc (n + 1) j ∙ (ap (λ h. bit_at h j) (let goal : (n + 1) / 2 ≡ n / 2 = omega (arith, e) in goal) ∙ sym (bit_at-suc n j))

-- the bits above are those of the word
less-high : (word t n i : ℕ) → word / 2 ^ t ≡ n + 1 → word % 2 ^ t ≡ 0 → n % 2 ≡ 0 → t < i → bit_at (word - 1) i ≡ bit_at word i
less-high word t n i q r e l =
    let low : 2 ^ t - 1 < 2 ^ t = (let p = pow_pos t in omega (arith, p)) in
    let below : word % 2 ^ t < 2 ^ t = mod_below word (2 ^ t) (pow_pos t) in
    let j = i - t - 1 in
    let index : i - t ≡ suc j = omega (arith, l) in
    ap (λ w. bit_at w i) (less-bits word t n i q r)
    ∙ (bit_at_cat_high n t (2 ^ t - 1) i low (omega (arith, l))
    ∙ (ap (bit_at n) index ∙ (sym (half-even n j e) ∙ (ap (bit_at (n + 1)) (sym index)
    ∙ (ap (λ m. bit_at m (i - t)) (sym q) ∙ (sym (bit_at_cat_high (word / 2 ^ t) t (word % 2 ^ t) i below (omega (arith, l))) ∙ ap (λ w. bit_at w i) (shr_split word t)))))))

-- and the lowest bit is off
less-here : (word t n : ℕ) → word / 2 ^ t ≡ n + 1 → word % 2 ^ t ≡ 0 → n % 2 ≡ 0 → bit_at (word - 1) t ≡ 0
less-here word t n q r e =
    let low : 2 ^ t - 1 < 2 ^ t = (let p = pow_pos t in omega (arith, p)) in
    ap (λ w. bit_at w t) (less-bits word t n t q r)
    ∙ (bit_at_cat_high n t (2 ^ t - 1) t low (omega arith)
    ∙ (ap (bit_at n) (let goal : t - t ≡ 0 = omega arith in goal) ∙ (bit_at_lowest n ∙ e)))

-- the lowest bit of a word is taken off by what is one less
pub lowest-off : (word : ℕ) → word < 2 ^ 64 → 0 < word → bit_and word ((word + 18446744073709551615) % 18446744073709551616) ≡ bit_and word (bit_not w64 (1 * 2 ^ (trailing_zeros w64 word % 64) % 2 ^ 64))
lowest-off word small positive =
    let t = trailing_zeros w64 word in
    let bits = bit_at-trailing_zeros w64 word positive small in
    let fits : t < 64 = bits.0 in
    let one_less : (word + 18446744073709551615) % 18446744073709551616 ≡ word - 1 = omega (arith, small, positive) in
    let t_is : t % 64 ≡ t = omega (arith, fits) in
    let r = low-none word t bits.2 in
    let below : word % 2 ^ t < 2 ^ t = mod_below word (2 ^ t) (pow_pos t) in
    let odd : word / 2 ^ t % 2 ≡ 1 = bits.1 in
    let n = word / 2 ^ t - 1 in
    let q : word / 2 ^ t ≡ n + 1 = omega (arith, odd) in
    let even : n % 2 ≡ 0 = omega (arith, odd) in
    ap (bit_and word) one_less
    ∙ (same_from_bits_below 64 (bit_and word (word - 1)) (bit_and word (bit_not w64 (1 * 2 ^ t % 2 ^ 64))) (let less = and_le_l word (word - 1) in omega (arith, less, small)) (let less = and_le_l word (bit_not w64 (1 * 2 ^ t % 2 ^ 64)) in omega (arith, less, small)) (λ i l. go i l (cases_lt i t) (cases_lt t i))
    ∙ ap (λ k. bit_and word (bit_not w64 (1 * 2 ^ k % 2 ^ 64))) (sym t_is))
  where
    go : (i : ℕ) → i < 64 → (i < trailing_zeros w64 word) ⊎ (trailing_zeros w64 word ≤ i) → (trailing_zeros w64 word < i) ⊎ (i ≤ trailing_zeros w64 word) → bit_at (bit_and word (word - 1)) i ≡ bit_at (bit_and word (bit_not w64 (1 * 2 ^ trailing_zeros w64 word % 2 ^ 64))) i
    go i l (inl before) any =
        let bits = bit_at-trailing_zeros w64 word positive small in
        let none = bits.2 i before in
        let left = bit_at_and word (word - 1) i in
        let right = bit_at_and word (bit_not w64 (1 * 2 ^ trailing_zeros w64 word % 2 ^ 64)) i in
        omega (arith, none, left, right)
    go i l (inr o) (inl after) =
        let bits = bit_at-trailing_zeros w64 word positive small in
        let fits : trailing_zeros w64 word < 64 = bits.0 in
        let odd : word / 2 ^ trailing_zeros w64 word % 2 ≡ 1 = bits.1 in
        let high = less-high word (trailing_zeros w64 word) (word / 2 ^ trailing_zeros w64 word - 1) i (omega (arith, odd)) (low-none word (trailing_zeros w64 word) bits.2) (omega (arith, odd)) after in
        let left = bit_at_and word (word - 1) i in
        let right = bit_at_clear_other w64 word (trailing_zeros w64 word) fits i l (λ (e : i ≡ trailing_zeros w64 word). omega (arith, e, after)) in
        omega (arith, high, left, right)
    go i l (inr o) (inr u) =
        let bits = bit_at-trailing_zeros w64 word positive small in
        let fits : trailing_zeros w64 word < 64 = bits.0 in
        let odd : word / 2 ^ trailing_zeros w64 word % 2 ≡ 1 = bits.1 in
        let here : i ≡ trailing_zeros w64 word = omega (arith, o, u) in
        let off = less-here word (trailing_zeros w64 word) (word / 2 ^ trailing_zeros w64 word - 1) (omega (arith, odd)) (low-none word (trailing_zeros w64 word) bits.2) (omega (arith, odd)) in
        let left = bit_at_and word (word - 1) (trailing_zeros w64 word) in
        let right = bit_at_clear_same w64 word (trailing_zeros w64 word) fits in
        let goal : bit_at (bit_and word (word - 1)) (trailing_zeros w64 word) ≡ bit_at (bit_and word (bit_not w64 (1 * 2 ^ trailing_zeros w64 word % 2 ^ 64))) (trailing_zeros w64 word) = omega (arith, off, left, right) in
        ap (bit_at (bit_and word (word - 1))) here ∙ goal ∙ ap (bit_at (bit_and word (bit_not w64 (1 * 2 ^ trailing_zeros w64 word % 2 ^ 64)))) (sym here)

bit-positive : (word k : ℕ) → bit_at word k ≡ 1 → 0 < word
bit-positive zero k on = absurd (let none = bit_at-zero k in omega (arith, none, on))
bit-positive (suc more) k on = omega arith

-- ---- the least number of a word is taken out

pub removed : (words : List ℕ) (flags : List Bool) (at el word : ℕ) → AreWords 4096 words → flags_of 4096 words ≡ flags → at < 64 → word ≡ get_or words at word → IsLowest at flags el → flags_of 4096 (set words at (bit_and word ((word + 18446744073709551615) % 18446744073709551616))) ≡ set flags el false
removed words flags at el word are shows at_small found low =
    let within : at < length words = (let long : length words ≡ 64 = are.count in omega (arith, long, at_small)) in
    let read : word ≡ get_or words at 0 = found ∙ get_or_default_zero words at word within in
    let P : ℕ → Type 0 = λ w. w < 2 ^ 64 in
    let small : word < 2 ^ 64 = subst P (sym read) (are.small at) in
    let index = low.index in
    let on : bit_at word (el % 64) ≡ 1 = eqb-true (bit_at word (el % 64)) 1 (sym (flag-was words at word el read index) ∙ (seen_flag 4096 el words flags are shows ∙ low.on)) in
    let lower : (j : ℕ) → j < el % 64 → bit_at word j ≡ 0 = (λ j l.
    let row : (64 * at + j) / 64 ≡ at = omega (arith, l) in
    let column : (64 * at + j) % 64 ≡ j = omega (arith, l) in
    bit-none (bit_at word j) (bit_at-lt word j) (ap (λ c. nat_eq (bit_at word c) 1) (sym column) ∙ (sym (flag-was words at word (64 * at + j) read row) ∙ (seen_flag 4096 (64 * at + j) words flags are shows ∙ low.lowest (64 * at + j) (omega (arith, l, index)))))) in
    let e = lowest-index word (el % 64) small (omega arith) on lower in
    ap (λ w. flags_of 4096 (set words at w)) (lowest-off word small (bit-positive word (el % 64) on))
    ∙ (ap (λ b. flags_of 4096 (set words at (bit_and word (bit_not w64 (1 * 2 ^ b % 2 ^ 64))))) e
    ∙ (ap (λ a. flags_of 4096 (set words a (bit_and word (bit_not w64 (mask el))))) (sym index)
    ∙ (clear_flags el word words are (omega (arith, index, at_small)) (found ∙ ap (λ a. get_or words a word) (sym index))
    ∙ ap (λ fs. set fs el false) shows)))
