-- Sets of numbers: how they are made, and what a number more or less changes.
use Rattle.std.proofs.Common.{ℕ, zero, suc, List, ◌≡◌, ◌≢◌, ◌≤◌, ◌<◌, ◌+◌, ◌-◌, ◌*◌, ◌/◌, ◌%◌, ◌^◌, ◌⊎◌, ◌||◌, Bool, true, false, refl, sym, ap, ◌∙◌, arith, cond, get_or, inl, inr, length, nat_eq, replicate, bit_and, bit_or, subst, zero-mul, take, drop, length-drop, length-take}
use Rattle.std.proofs.Math.Nat.{div-eq_of_lt}
use Rattle.std.proofs.Math.Pow.{pow_mono}
use Rattle.std.proofs.lemmas.Bool.{cases_eq, cases_lt, eqb-true}
use Rattle.std.proofs.lemmas.Grind.{get_or_default_zero}
use Rattle.std.proofs.lemmas.List.{get_or-replicate, get_or_past, length-replicate}
use Rattle.std.proofs.lemmas.List.Sums.{count_by-le-length, get_or-le-sum_by, sum_by-cons}
use Rattle.std.proofs.lemmas.Nat.{and_le_l, mod_below, one_shl, or_lt, pow_below, pow_pos, shr_split}
use Rattle.std.proofs.lemmas.Nat.Bits.{and_pow, bit_at-lt, bit_at-zero, bit_at_above, bit_at_clear_other, bit_at_clear_same, bit_at_ones, bit_at_ones_above, bit_at_set_other, bit_at_set_same}
use Rattle.std.specs.Int.{bit_at, bit_not, w64}
use Rattle.std.specs.Int.RustNames.{count_ones}
use Rattle.std.specs.List.{sum_by}
use Rattle.common.proofs.BitFlags.{Changes, count-set, flag_is, flags-at, flags-changed, flags_are, length-flags, set-same, words-changed}
use Rattle.common.proofs.FlagWords.{alive_word-at, alive_words-flags_of, ones-alive_words}
use Rattle.common.specs.BitSets.{AreFull, AreWords, IsBitSet, is_cut, count_set, flag_at, flags_of}
use Rattle.layouts.proofs.Lists.{word_below as word-below}
use Rattle.layouts.specs.AliveSets.{alive_words, word_of}
use lib.ListN.{set}

-- the mask of a number's bit
abbrev pub mask : ℕ → ℕ
mask el = 1 * 2 ^ (el % 64) % 2 ^ 64

-- the word of a number is there
pub word_inside : (n el : ℕ) (words : List ℕ) → AreWords n words → el < n → el / 64 < length words
word_inside n el words are below = (let count = are.count in omega arith)

pub few_numbers : (n len : ℕ) (words : List ℕ) → IsBitSet n words len → len ≤ n
few_numbers n len words is = omega (arith, is.len_is, count_by-le-length (λ (b : Bool). b) (flags_of n words), length-flags n words)

-- ---- a number's bit

mask-test : (word el : ℕ) → bit_and word (mask el) ≡ bit_at word (el % 64) * 2 ^ (el % 64)
mask-test word el = ap (bit_and word) (one_shl (el % 64) 64 (omega arith)) ∙ and_pow word (el % 64)

pub bit_clear : (word el : ℕ) → bit_and word (mask el) ≡ 0 → bit_at word (el % 64) ≡ 0
bit_clear word el none = go (bit_at word (el % 64)) refl (bit_at-lt word (el % 64))
  where
    go : (bit : ℕ) → bit_at word (el % 64) ≡ bit → bit < 2 → bit ≡ 0
    go zero e small = refl
    go (suc zero) e small = (let found : bit_and word (mask el) ≡ 1 * 2 ^ (el % 64) = mask-test word el ∙ ap (λ b. b * 2 ^ (el % 64)) e in absurd (omega (arith, pow_pos (el % 64))))
    go (suc (suc more)) e small = absurd (omega arith)

pub bit_set : (word el : ℕ) → bit_and word (mask el) ≢ 0 → bit_at word (el % 64) ≡ 1
bit_set word el some = go (bit_at word (el % 64)) refl (bit_at-lt word (el % 64))
  where
    go : (bit : ℕ) → bit_at word (el % 64) ≡ bit → bit < 2 → bit ≡ 1
    go zero e small = absurd (some (mask-test word el ∙ ap (λ b. b * 2 ^ (el % 64)) e ∙ zero-mul (2 ^ (el % 64))))
    go (suc zero) e small = refl
    go (suc (suc more)) e small = absurd (omega arith)

-- a flag is its bit in the word that was read
pub flag_read : (n el word : ℕ) (words : List ℕ) → AreWords n words → word ≡ get_or words (el / 64) 0 → get_or (flags_of n words) el false ≡ nat_eq (bit_at word (el % 64)) 1
flag_read n el word words are read = flags-at n words el are ∙ flag_is words el ∙ ap (λ w. nat_eq (bit_at w (el % 64)) 1) (sym read)

-- ---- a number more

set_changes : (n el word : ℕ) (words : List ℕ) → AreWords n words → el < n → word ≡ get_or words (el / 64) 0 → Changes words el (bit_or word (mask el)) true
set_changes n el word words are below read =
    let P : ℕ → Type 0 = λ w. w < 2 ^ 64 in
    let small : word < 2 ^ 64 = subst P (sym read) (are.small (el / 64)) in
    let within : el % 64 < 64 = omega arith in
    record {
      within = word_inside n el words are below;
      small = or_lt 64 word (mask el) small (omega arith);
      here = ap (λ b. nat_eq b 1) (bit_at_set_same w64 word (el % 64) within);
      others = λ k inside other. bit_at_set_other w64 word (el % 64) within k other ∙ ap (λ w. bit_at w k) read;
    }

pub inserted : (n len el word : ℕ) (words : List ℕ) → IsBitSet n words len → el < n → word ≡ get_or words (el / 64) 0 → bit_and word (mask el) ≡ 0 → IsBitSet n (set words (el / 64) (bit_or word (mask el))) (len + 1)
inserted n len el word words is below read none =
    let are = is.words_are in
    let changes = set_changes n el word words are below read in
    let before : get_or (flags_of n words) el false ≡ false = flag_read n el word words are read ∙ ap (λ b. nat_eq b 1) (bit_clear word el none) in
    let counted : count_set (set (flags_of n words) el true) + cond (get_or (flags_of n words) el false) 1 0 ≡ count_set (flags_of n words) + 1 = count-set (flags_of n words) el true (omega (arith, length-flags n words)) in
    let one_more : count_set (set (flags_of n words) el true) + 0 ≡ count_set (flags_of n words) + 1 = ap (λ b. count_set (set (flags_of n words) el true) + cond b 1 0) (sym before) ∙ counted in
    record {
      words_are = words-changed n words el (bit_or word (mask el)) true are below changes;
      len_is = ap (λ m. m + 1) is.len_is ∙ sym one_more ∙ (let none_more : count_set (set (flags_of n words) el true) + 0 ≡ count_set (set (flags_of n words) el true) = omega arith in none_more) ∙ ap count_set (sym (flags-changed n words el (bit_or word (mask el)) true are below changes));
    }

pub inserted_flags : (n len el word : ℕ) (words : List ℕ) → IsBitSet n words len → el < n → word ≡ get_or words (el / 64) 0 → flags_of n (set words (el / 64) (bit_or word (mask el))) ≡ set (flags_of n words) el true
inserted_flags n len el word words is below read = flags-changed n words el (bit_or word (mask el)) true is.words_are below (set_changes n el word words is.words_are below read)

pub kept_in : (n len el word : ℕ) (words : List ℕ) → IsBitSet n words len → el < n → word ≡ get_or words (el / 64) 0 → bit_and word (mask el) ≢ 0 → flags_of n words ≡ set (flags_of n words) el true
kept_in n len el word words is below read some = set-same (flags_of n words) el true (omega (arith, length-flags n words)) (flag_read n el word words is.words_are read ∙ ap (λ b. nat_eq b 1) (bit_set word el some))

-- ---- a number less

clear_changes : (n el word : ℕ) (words : List ℕ) → AreWords n words → el < n → word ≡ get_or words (el / 64) 0 → Changes words el (bit_and word (bit_not w64 (mask el))) false
clear_changes n el word words are below read =
    let P : ℕ → Type 0 = λ w. w < 2 ^ 64 in
    let small : word < 2 ^ 64 = subst P (sym read) (are.small (el / 64)) in
    let within : el % 64 < 64 = omega arith in
    let less = and_le_l word (bit_not w64 (mask el)) in
    record {
      within = word_inside n el words are below;
      small = omega arith;
      here = ap (λ b. nat_eq b 1) (bit_at_clear_same w64 word (el % 64) within);
      others = λ k inside other. bit_at_clear_other w64 word (el % 64) within k inside other ∙ ap (λ w. bit_at w k) read;
    }

pub some_numbers : (n len el word : ℕ) (words : List ℕ) → IsBitSet n words len → el < n → word ≡ get_or words (el / 64) 0 → bit_and word (mask el) ≢ 0 → 0 < len
some_numbers n len el word words is below read some =
    let before : get_or (flags_of n words) el false ≡ true = flag_read n el word words is.words_are read ∙ ap (λ b. nat_eq b 1) (bit_set word el some) in
    let least : cond (get_or (flags_of n words) el false) 1 0 ≤ count_set (flags_of n words) = get_or-le-sum_by (λ b. cond b 1 0) (flags_of n words) el false (omega (arith, length-flags n words)) in
    let P : Bool → Type 0 = λ b. cond b 1 0 ≤ count_set (flags_of n words) in
    let one : 1 ≤ count_set (flags_of n words) = subst P before least in
    omega (arith, is.len_is)

pub removed : (n len el word : ℕ) (words : List ℕ) → IsBitSet n words len → el < n → word ≡ get_or words (el / 64) 0 → bit_and word (mask el) ≢ 0 → IsBitSet n (set words (el / 64) (bit_and word (bit_not w64 (mask el)))) (len - 1)
removed n len el word words is below read some =
    let are = is.words_are in
    let changes = clear_changes n el word words are below read in
    let before : get_or (flags_of n words) el false ≡ true = flag_read n el word words are read ∙ ap (λ b. nat_eq b 1) (bit_set word el some) in
    let counted : count_set (set (flags_of n words) el false) + cond (get_or (flags_of n words) el false) 1 0 ≡ count_set (flags_of n words) + 0 = count-set (flags_of n words) el false (omega (arith, length-flags n words)) in
    let one_less : count_set (set (flags_of n words) el false) + 1 ≡ count_set (flags_of n words) + 0 = ap (λ b. count_set (set (flags_of n words) el false) + cond b 1 0) (sym before) ∙ counted in
    let left : len - 1 ≡ count_set (set (flags_of n words) el false) = omega (arith, is.len_is) in
    record {
      words_are = words-changed n words el (bit_and word (bit_not w64 (mask el))) false are below changes;
      len_is = left ∙ ap count_set (sym (flags-changed n words el (bit_and word (bit_not w64 (mask el))) false are below changes));
    }

pub removed_flags : (n len el word : ℕ) (words : List ℕ) → IsBitSet n words len → el < n → word ≡ get_or words (el / 64) 0 → flags_of n (set words (el / 64) (bit_and word (bit_not w64 (mask el)))) ≡ set (flags_of n words) el false
removed_flags n len el word words is below read = flags-changed n words el (bit_and word (bit_not w64 (mask el))) false is.words_are below (clear_changes n el word words is.words_are below read)

pub kept_out : (n len el word : ℕ) (words : List ℕ) → IsBitSet n words len → el < n → word ≡ get_or words (el / 64) 0 → bit_and word (mask el) ≡ 0 → flags_of n words ≡ set (flags_of n words) el false
kept_out n len el word words is below read none = set-same (flags_of n words) el false (omega (arith, length-flags n words)) (flag_read n el word words is.words_are read ∙ ap (λ b. nat_eq b 1) (bit_clear word el none))

-- ---- sets of none and of all

count-replicate : (n : ℕ) (b : Bool) → count_set (replicate n b) ≡ n * cond b 1 0
count-replicate zero b = sym (zero-mul (cond b 1 0))
count-replicate (suc n) b = sum_by-cons (λ c. cond c 1 0) b (replicate n b) ∙ (let more = count-replicate n b in bit b more)
  where
    bit : (c : Bool) → count_set (replicate n c) ≡ n * cond c 1 0 → cond c 1 0 + count_set (replicate n c) ≡ suc n * cond c 1 0
    bit true more = omega arith
    bit false more = omega arith

-- `m` words without a bit
abbrev zeros : ℕ → List ℕ
zeros m = replicate m 0

zeros-at : (m i : ℕ) → get_or (zeros m) i 0 ≡ 0
zeros-at m i = go (cases_lt i m)
  where
    go : (i < m) ⊎ (m ≤ i) → get_or (zeros m) i 0 ≡ 0
    go (inl within) = get_or-replicate m i 0 0 within
    go (inr past) = get_or_past (zeros m) i 0 (let long : length (zeros m) ≡ m = length-replicate m 0 in omega arith)

zeros-flag : (m i : ℕ) → flag_at (zeros m) i ≡ false
zeros-flag m i = flag_is (zeros m) i ∙ ap (λ w. nat_eq (bit_at w (i % 64)) 1) (zeros-at m (i / 64)) ∙ ap (λ b. nat_eq b 1) (bit_at-zero (i % 64))

pub none_in : (n m : ℕ) → flags_of n (replicate m 0) ≡ replicate n false
none_in n m = flags_are n (zeros m) (replicate n false) (length-replicate n false) (λ i within. zeros-flag m i ∙ sym (get_or-replicate n i false false within))

pub empty_set : (n : ℕ) → n < 2 ^ 32 → IsBitSet n (replicate ((n + 63) / 64) 0) 0
empty_set n few = record {
  words_are = record {
    n_fits = few;
    count = length-replicate ((n + 63) / 64) 0;
    small = λ i. omega (arith, zeros-at ((n + 63) / 64) i);
    clear = λ i past. zeros-flag ((n + 63) / 64) i;
  };
  len_is = sym (ap count_set (none_in n ((n + 63) / 64)) ∙ count-replicate n false ∙ omega arith);
}

full-in : (n : ℕ) (words : List ℕ) (i : ℕ) → AreFull n words → i < n → flag_at words i ≡ true
full-in n words i full below = go (cases_lt (i / 64) (n / 64))
  where
    go : (i / 64 < n / 64) ⊎ (n / 64 ≤ i / 64) → flag_at words i ≡ true
    go (inl before) = flag_is words i ∙ ap (λ w. nat_eq (bit_at w (i % 64)) 1) (full.words_full (i / 64) before) ∙ ap (λ b. nat_eq b 1) (bit_at_ones 64 (i % 64) (omega arith))
    go (inr at) =
        let same : i / 64 ≡ n / 64 = omega arith in
        flag_is words i ∙ ap (λ w. nat_eq (bit_at w (i % 64)) 1) (ap (λ j. get_or words j 0) same ∙ full.last) ∙ ap (λ b. nat_eq b 1) (bit_at_ones (n % 64) (i % 64) (omega arith))

full-past : (n : ℕ) (words : List ℕ) (i : ℕ) → AreFull n words → n ≤ i → flag_at words i ≡ false
full-past n words i full past = go (cases_eq (i / 64) (n / 64))
  where
    go : (i / 64 ≡ n / 64) ⊎ (i / 64 ≡ n / 64 → ⊥) → flag_at words i ≡ false
    go (inl same) = flag_is words i ∙ ap (λ w. nat_eq (bit_at w (i % 64)) 1) (ap (λ j. get_or words j 0) same ∙ full.last) ∙ ap (λ b. nat_eq b 1) (bit_at_ones_above (n % 64) (i % 64) (omega arith))
    go (inr other) = flag_is words i ∙ ap (λ w. nat_eq (bit_at w (i % 64)) 1) (get_or_past words (i / 64) 0 (omega (arith, full.count))) ∙ ap (λ b. nat_eq b 1) (bit_at-zero (i % 64))

full-small : (n : ℕ) (words : List ℕ) (j : ℕ) → AreFull n words → get_or words j 0 < 2 ^ 64
full-small n words j full = go (cases_lt j (n / 64)) (cases_eq j (n / 64))
  where
    go : (j < n / 64) ⊎ (n / 64 ≤ j) → (j ≡ n / 64) ⊎ (j ≡ n / 64 → ⊥) → get_or words j 0 < 2 ^ 64
    go (inl before) any = (let e = full.words_full j before in omega arith)
    go (inr at) (inl same) =
        let e : get_or words j 0 ≡ 2 ^ (n % 64) - 1 = ap (λ k. get_or words k 0) same ∙ full.last in
        let below : 2 ^ (n % 64) < 2 ^ 64 = pow_below (n % 64) 64 (omega arith) in
        omega arith
    go (inr at) (inr other) = (let e : get_or words j 0 ≡ 0 = get_or_past words j 0 (omega (arith, full.count)) in omega arith)

pub all_in : (n : ℕ) (words : List ℕ) → AreFull n words → flags_of n words ≡ replicate n true
all_in n words full = flags_are n words (replicate n true) (length-replicate n true) (λ i within. full-in n words i full within ∙ sym (get_or-replicate n i true false within))

pub full_set : (n : ℕ) (words : List ℕ) → n < 2 ^ 32 → AreFull n words → IsBitSet n words n
full_set n words few full = record {
  words_are = record {
    n_fits = few;
    count = full.count;
    small = λ j. full-small n words j full;
    clear = λ i past. full-past n words i full past;
  };
  len_is = sym (ap count_set (all_in n words full) ∙ count-replicate n true ∙ omega arith);
}

-- ---- words that were read

-- the last word has no bit past the numbers
abbrev pub IsCut : ℕ → List ℕ → Type 0
IsCut n words = 0 < n % 64 → get_or words (n / 64) 0 < 2 ^ (n % 64)

pub cut_words_are : (n : ℕ) (words : List ℕ) → n < 2 ^ 32 → length words ≡ (n + 63) / 64 → ((i : ℕ) → get_or words i 0 < 2 ^ 64) → IsCut n words → AreWords n words
cut_words_are n words few long small cut = record {
  n_fits = few;
  count = long;
  small = small;
  clear = λ i past. flag_is words i ∙ ap (λ b. nat_eq b 1) (go i past (cases_lt (i / 64) (length words)));
}
  where
    go : (i : ℕ) → n ≤ i → (i / 64 < length words) ⊎ (length words ≤ i / 64) → bit_at (get_or words (i / 64) 0) (i % 64) ≡ 0
    go i past (inr end) = ap (λ w. bit_at w (i % 64)) (get_or_past words (i / 64) 0 end) ∙ bit_at-zero (i % 64)
    go i past (inl within) =
        let same : i / 64 ≡ n / 64 = omega arith in
        let some : 0 < n % 64 = omega arith in
        ap (λ j. bit_at (get_or words j 0) (i % 64)) same ∙ bit_at_above (get_or words (n / 64) 0) (n % 64) (i % 64) (cut some) (omega arith)

pub cut_set : (n len : ℕ) (words : List ℕ) → AreWords n words → len ≡ sum_by count_ones words → IsBitSet n words len
cut_set n len words are counted = record {
  words_are = are;
  len_is = counted ∙ ap (λ ws. sum_by count_ones ws) (alive_words-flags_of n words are) ∙ ones-alive_words (flags_of n words);
}

-- a word without a bit from a place on
below_place : (word k : ℕ) → word / 2 ^ k ≡ 0 → word < 2 ^ k
below_place word k none =
    let parts : word / 2 ^ k * 2 ^ k + word % 2 ^ k ≡ word = shr_split word k in
    let high : word / 2 ^ k * 2 ^ k ≡ 0 = ap (λ m. m * 2 ^ k) none ∙ zero-mul (2 ^ k) in
    let low : word % 2 ^ k < 2 ^ k = mod_below word (2 ^ k) (pow_pos k) in
    omega arith

pub cut_from : (n : ℕ) (words : List ℕ) → is_cut n words ≡ true → IsCut n words
cut_from n words cut some = below_place (get_or words (n / 64) 0) (n % 64) (go (nat_eq (n % 64) 0) refl)
  where
    go : (b : Bool) → nat_eq (n % 64) 0 ≡ b → get_or words (n / 64) 0 / 2 ^ (n % 64) ≡ 0
    go true e = absurd (let none : n % 64 ≡ 0 = eqb-true (n % 64) 0 e in omega arith)
    go false e = eqb-true (get_or words (n / 64) 0 / 2 ^ (n % 64)) 0 (ap (λ b. b || nat_eq (get_or words (n / 64) 0 / 2 ^ (n % 64)) 0) (sym e) ∙ cut)

-- where a bit past the numbers is set, the words are those of no flags
pub not_cut : (n : ℕ) (words : List ℕ) (flags : List Bool) → is_cut n words ≡ false → length flags ≡ n → words ≢ alive_words flags
not_cut n words flags open_bits long same =
    let xs = take 64 (drop (64 * (n / 64)) flags) in
    let short : length xs ≤ n % 64 = omega (arith, length-take 64 (drop (64 * (n / 64)) flags), length-drop (64 * (n / 64)) flags) in
    let below = word-below xs in
    let most : 2 ^ length xs ≤ 2 ^ (n % 64) = pow_mono short in
    let word : get_or words (n / 64) 0 ≡ word_of xs = ap (λ ws. get_or ws (n / 64) 0) same ∙ alive_word-at flags (n / 64) in
    let small : get_or words (n / 64) 0 < 2 ^ (n % 64) = omega arith in
    go (nat_eq (n % 64) 0) (div-eq_of_lt small) open_bits
  where
    go : (b : Bool) → get_or words (n / 64) 0 / 2 ^ (n % 64) ≡ 0 → (b || nat_eq (get_or words (n / 64) 0 / 2 ^ (n % 64)) 0) ≡ false → ⊥
    go true none e = cc
    go false none e = (let zero_is : nat_eq (get_or words (n / 64) 0 / 2 ^ (n % 64)) 0 ≡ true = ap (λ m. nat_eq m 0) none in cc)

-- ---- a set behind its fields

-- what is known of a set whose word was read at a number
pub record At (flags : List Bool) (n len el word : ℕ) (words : List ℕ) : Type 0 where
  pub is : IsBitSet n words len
  pub shows : flags_of n words ≡ flags
  pub below : el < length flags
  pub read : word ≡ get_or words (el / 64) word

pub seen_length : (n : ℕ) (words : List ℕ) (flags : List Bool) → flags_of n words ≡ flags → n ≡ length flags
seen_length n words flags shows = sym (length-flags n words) ∙ ap length shows

pub seen_word : (n el : ℕ) (words : List ℕ) (flags : List Bool) → AreWords n words → flags_of n words ≡ flags → el < length flags → el / 64 < length words
seen_word n el words flags are shows below = word_inside n el words are (omega (arith, seen_length n words flags shows))

pub seen_flag : (n el : ℕ) (words : List ℕ) (flags : List Bool) → AreWords n words → flags_of n words ≡ flags → flag_at words el ≡ get_or flags el false
seen_flag n el words flags are shows = sym (flags-at n words el are) ∙ ap (λ fs. get_or fs el false) shows

read_word : (flags : List Bool) (n len el word : ℕ) (words : List ℕ) → At flags n len el word words → word ≡ get_or words (el / 64) 0
read_word flags n len el word words at = at.read ∙ get_or_default_zero words (el / 64) word (seen_word n el words flags at.is.words_are at.shows at.below)

below_bound : (flags : List Bool) (n len el word : ℕ) (words : List ℕ) → At flags n len el word words → el < n
below_bound flags n len el word words at = (let below = at.below in let long = seen_length n words flags at.shows in omega arith)

pub insert_keeps : (flags : List Bool) (n len el word : ℕ) (words : List ℕ) → At flags n len el word words → bit_and word (mask el) ≡ 0 → IsBitSet n (set words (el / 64) (bit_or word (mask el))) (len + 1)
insert_keeps flags n len el word words at none = inserted n len el word words at.is (below_bound flags n len el word words at) (read_word flags n len el word words at) none

pub insert_shows : (flags : List Bool) (n len el word : ℕ) (words : List ℕ) → At flags n len el word words → flags_of n (set words (el / 64) (bit_or word (mask el))) ≡ set flags el true
insert_shows flags n len el word words at = inserted_flags n len el word words at.is (below_bound flags n len el word words at) (read_word flags n len el word words at) ∙ ap (λ fs. set fs el true) at.shows

pub insert_again : (flags : List Bool) (n len el word : ℕ) (words : List ℕ) → At flags n len el word words → bit_and word (mask el) ≢ 0 → flags ≡ set flags el true
insert_again flags n len el word words at some = sym at.shows ∙ kept_in n len el word words at.is (below_bound flags n len el word words at) (read_word flags n len el word words at) some ∙ ap (λ fs. set fs el true) at.shows

pub remove_some : (flags : List Bool) (n len el word : ℕ) (words : List ℕ) → At flags n len el word words → bit_and word (mask el) ≢ 0 → 0 < len
remove_some flags n len el word words at some = some_numbers n len el word words at.is (below_bound flags n len el word words at) (read_word flags n len el word words at) some

pub remove_keeps : (flags : List Bool) (n len el word : ℕ) (words : List ℕ) → At flags n len el word words → bit_and word (mask el) ≢ 0 → IsBitSet n (set words (el / 64) (bit_and word (bit_not w64 (mask el)))) (len - 1)
remove_keeps flags n len el word words at some = removed n len el word words at.is (below_bound flags n len el word words at) (read_word flags n len el word words at) some

pub remove_shows : (flags : List Bool) (n len el word : ℕ) (words : List ℕ) → At flags n len el word words → flags_of n (set words (el / 64) (bit_and word (bit_not w64 (mask el)))) ≡ set flags el false
remove_shows flags n len el word words at = removed_flags n len el word words at.is (below_bound flags n len el word words at) (read_word flags n len el word words at) ∙ ap (λ fs. set fs el false) at.shows

pub remove_again : (flags : List Bool) (n len el word : ℕ) (words : List ℕ) → At flags n len el word words → bit_and word (mask el) ≡ 0 → flags ≡ set flags el false
remove_again flags n len el word words at none = sym at.shows ∙ kept_out n len el word words at.is (below_bound flags n len el word words at) (read_word flags n len el word words at) none ∙ ap (λ fs. set fs el false) at.shows
