-- Flags and their words of 64: each gives the other.
use Rattle.std.proofs.Common.{ℕ, zero, suc, List, [], ◌∷◌, ◌≡◌, ◌≤◌, ◌<◌, ◌+◌, ◌-◌, ◌*◌, ◌/◌, ◌%◌, ◌^◌, Bool, true, false, refl, sym, ap, ap₂, ◌∙◌, arith, cond, get_or, length, map, nat_eq, subst, take, drop, length-drop, length-take}
use Rattle.std.proofs.lemmas.Grind.{same_number_lists}
use Rattle.std.proofs.lemmas.List.{drop-drop, drop_all, get_or-drop, get_or-take, get_or_past, length-map}
use Rattle.std.proofs.lemmas.List.Sums.{sum_by-cons, sum_by-take-drop}
use Rattle.std.proofs.lemmas.Nat.{ones_cat}
use Rattle.std.proofs.Math.Pow.{pow_mono}
use Rattle.std.proofs.lemmas.Nat.Bits.{bit_at-lt, bit_at-suc, bit_at-zero, bit_at_lowest, same_from_bits_below}
use Rattle.std.specs.Int.{bit_at}
use Rattle.std.specs.Int.RustNames.{count_ones}
use Rattle.std.specs.List.{sum_by}
use Rattle.common.proofs.BitFlags.{flag_is, flags-at, flags_are, length-flags}
use Rattle.common.specs.BitSets.{AreWords, count_set, flag_at, flags_of}
use Rattle.definitions.specs.State.{groups_of}
use Rattle.layouts.proofs.Lists.{word_below as word-below}
use Rattle.layouts.specs.AliveSets.{alive_words, word_of}

-- ---- one word

-- a flag as a bit
abbrev bit_of : Bool → ℕ
bit_of flag = cond flag 1 0

bit-flag : (flag : Bool) → nat_eq (bit_of flag) 1 ≡ flag
bit-flag true = refl
bit-flag false = refl

flag-bit : (bit : ℕ) → bit < 2 → bit_of (nat_eq bit 1) ≡ bit
flag-bit zero small = refl
flag-bit (suc zero) small = refl
flag-bit (suc (suc more)) small = absurd (omega arith)

lowest : (flag : Bool) (m : ℕ) → (bit_of flag + 2 * m) % 2 ≡ bit_of flag
lowest true m = omega arith
lowest false m = omega arith

others : (flag : Bool) (m : ℕ) → (bit_of flag + 2 * m) / 2 ≡ m
others true m = omega arith
others false m = omega arith

pub bit_at-word : (flags : List Bool) (k : ℕ) → bit_at (word_of flags) k ≡ bit_of (get_or flags k false)
bit_at-word [] k = bit_at-zero k
bit_at-word (flag ∷ flags) zero = bit_at_lowest (bit_of flag + 2 * word_of flags) ∙ lowest flag (word_of flags)
bit_at-word (flag ∷ flags) (suc k) = bit_at-suc (bit_of flag + 2 * word_of flags) k ∙ ap (λ m. bit_at m k) (others flag (word_of flags)) ∙ bit_at-word flags k

pub ones-word : (flags : List Bool) → count_ones (word_of flags) ≡ count_set flags
unfolding count_ones
ones-word [] = refl
ones-word (flag ∷ flags) =
    ap count_ones (turned flag)
    ∙ ones_cat 1 (word_of flags) (bit_of flag) (small flag)
    ∙ ap₂ (λ m n. m + n) (ones-word flags) (one flag)
    ∙ (let e = sum_by-cons bit_of flag flags in omega arith)
  where
    turned : (b : Bool) → bit_of b + 2 * word_of flags ≡ word_of flags * 2 ^ 1 + bit_of b
    turned true = omega arith
    turned false = omega arith

    small : (b : Bool) → bit_of b < 2 ^ 1
    small true = omega arith
    small false = omega arith

    one : (b : Bool) → count_ones (bit_of b) ≡ bit_of b
    one true = refl
    one false = refl

-- ---- the words of a list

nil_of : (flags : List Bool) → length flags ≤ 0 → flags ≡ []
nil_of [] none = refl
nil_of (flag ∷ flags) none = absurd (omega arith)

pub length-groups : (m : ℕ) (flags : List Bool) → length (groups_of m 64 flags) ≡ m
length-groups zero flags = refl
length-groups (suc m) flags = ap suc (length-groups m (drop 64 flags))

-- word j has the flags from 64 * j on
word-at : (m j : ℕ) (flags : List Bool) → length flags ≤ 64 * m → get_or (map word_of (groups_of m 64 flags)) j 0 ≡ word_of (take 64 (drop (64 * j) flags))
word-at zero j flags long = sym (ap (λ fs. word_of (take 64 fs)) (drop_all (64 * j) flags (omega arith)))
word-at (suc m) zero flags long = refl
word-at (suc m) (suc j) flags long =
    word-at m j (drop 64 flags) (omega (arith, length-drop 64 flags))
    ∙ ap (λ fs. word_of (take 64 fs)) (drop-drop (64 * j) 64 flags ∙ ap (λ k. drop k flags) (omega arith))

enough : (n : ℕ) → n ≤ 64 * ((n + 64 - 1) / 64)
enough n = omega arith

pub alive_word-at : (flags : List Bool) (j : ℕ) → get_or (alive_words flags) j 0 ≡ word_of (take 64 (drop (64 * j) flags))
alive_word-at flags j = word-at ((length flags + 64 - 1) / 64) j flags (enough (length flags))

pub length-alive_words : (flags : List Bool) → length (alive_words flags) ≡ (length flags + 63) / 64
length-alive_words flags = length-map (groups_of ((length flags + 64 - 1) / 64) 64 flags) word_of ∙ length-groups ((length flags + 64 - 1) / 64) flags ∙ omega arith

-- flag i is bit i of the words
pub flag_at-alive_words : (flags : List Bool) (i : ℕ) → flag_at (alive_words flags) i ≡ get_or flags i false
flag_at-alive_words flags i =
    flag_is (alive_words flags) i
    ∙ ap (λ w. nat_eq (bit_at w (i % 64)) 1) (alive_word-at flags (i / 64))
    ∙ ap (λ b. nat_eq b 1) (bit_at-word (take 64 (drop (64 * (i / 64)) flags)) (i % 64))
    ∙ bit-flag (get_or (take 64 (drop (64 * (i / 64)) flags)) (i % 64) false)
    ∙ get_or-take 64 (drop (64 * (i / 64)) flags) (i % 64) false (omega arith)
    ∙ get_or-drop (64 * (i / 64)) flags (i % 64) false
    ∙ ap (λ k. get_or flags k false) (omega arith)

small-word : (flags : List Bool) (j : ℕ) → word_of (take 64 (drop (64 * j) flags)) < 2 ^ 64
small-word flags j =
    let xs = take 64 (drop (64 * j) flags) in
    let short : length xs ≤ 64 = omega (arith, length-take 64 (drop (64 * j) flags)) in
    let below = word-below xs in
    let most : 2 ^ length xs ≤ 2 ^ 64 = pow_mono short in
    omega arith

-- the flags of the words of flags are these flags
pub flags_of-alive_words : (flags : List Bool) → flags_of (length flags) (alive_words flags) ≡ flags
flags_of-alive_words flags = flags_are (length flags) (alive_words flags) flags refl (λ i within. flag_at-alive_words flags i)

pub alive_words_are : (flags : List Bool) → length flags < 2 ^ 32 → AreWords (length flags) (alive_words flags)
alive_words_are flags few = record {
  n_fits = few;
  count = length-alive_words flags;
  small = λ j. (let P : ℕ → Type 0 = λ w. w < 2 ^ 64 in subst P (sym (alive_word-at flags j)) (small-word flags j));
  clear = λ i past. flag_at-alive_words flags i ∙ get_or_past flags i false past;
}

-- the words of the flags of words are these words
pub alive_words-flags_of : (n : ℕ) (words : List ℕ) → AreWords n words → words ≡ alive_words (flags_of n words)
alive_words-flags_of n words are = same_number_lists words (alive_words (flags_of n words)) (are.count ∙ sym (length-alive_words (flags_of n words) ∙ ap (λ m. (m + 63) / 64) (length-flags n words))) (λ j within. word j)
  where
    bit : (j k : ℕ) → k < 64 → bit_at (get_or words j 0) k ≡ bit_at (word_of (take 64 (drop (64 * j) (flags_of n words)))) k
    bit j k within =
        let row : (64 * j + k) / 64 ≡ j = omega arith in
        let column : (64 * j + k) % 64 ≡ k = omega arith in
        sym (flag-bit (bit_at (get_or words j 0) k) (bit_at-lt (get_or words j 0) k))
        ∙ ap₂ (λ r c. bit_of (nat_eq (bit_at (get_or words r 0) c) 1)) (sym row) (sym column)
        ∙ ap bit_of (sym (flag_is words (64 * j + k)) ∙ sym (flags-at n words (64 * j + k) are) ∙ sym (get_or-drop (64 * j) (flags_of n words) k false) ∙ sym (get_or-take 64 (drop (64 * j) (flags_of n words)) k false within))
        ∙ sym (bit_at-word (take 64 (drop (64 * j) (flags_of n words))) k)

    word : (j : ℕ) → get_or words j 0 ≡ get_or (alive_words (flags_of n words)) j 0
    word j = same_from_bits_below 64 (get_or words j 0) (word_of (take 64 (drop (64 * j) (flags_of n words)))) (are.small j) (small-word (flags_of n words) j) (bit j) ∙ sym (alive_word-at (flags_of n words) j)

-- ---- how many are set

ones-groups : (m : ℕ) (flags : List Bool) → length flags ≤ 64 * m → sum_by count_ones (map word_of (groups_of m 64 flags)) ≡ count_set flags
ones-groups zero flags long = ap count_set (sym (nil_of flags (omega arith)))
ones-groups (suc m) flags long =
    sum_by-cons count_ones (word_of (take 64 flags)) (map word_of (groups_of m 64 (drop 64 flags)))
    ∙ ap₂ (λ a b. a + b) (ones-word (take 64 flags)) (ones-groups m (drop 64 flags) (omega (arith, length-drop 64 flags)))
    ∙ sum_by-take-drop bit_of flags 64

pub ones-alive_words : (flags : List Bool) → sum_by count_ones (alive_words flags) ≡ count_set flags
ones-alive_words flags = ones-groups ((length flags + 64 - 1) / 64) flags (enough (length flags))
