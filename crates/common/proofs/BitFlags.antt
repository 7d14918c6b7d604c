-- Flags as bits of words: what a set bit and a cleared bit change.
use Rattle.std.proofs.Common.{ℕ, List, ◌≡◌, ◌≢◌, ◌≤◌, ◌<◌, ◌+◌, ◌/◌, ◌%◌, ◌^◌, ◌⊎◌, Bool, false, refl, sym, ap, ◌∙◌, arith, cond, get_or, inl, inr, length, nat_eq, subst, zero-add}
use Rattle.std.proofs.lemmas.Bool.{cases_eq, cases_lt}
use Rattle.std.proofs.lemmas.List.{ext_get_or, get_or-set_other, get_or-set_same, get_or_past, length-set}
use Rattle.std.proofs.lemmas.List.FromFn.{get_or-map-range_with_len, length-map-range_with_len}
use Rattle.std.proofs.lemmas.List.Sums.{sum_by-set}
use Rattle.std.specs.Int.{bit_at}
use Rattle.common.specs.BitSets.{AreWords, count_set, flag_at, flags_of}
use lib.ListN.{set}

-- ---- flags of words

pub flag_is : (words : List ℕ) (i : ℕ) → flag_at words i ≡ nat_eq (bit_at (get_or words (i / 64) 0) (i % 64)) 1
unfolding flag_at
flag_is words i = refl

pub length-flags : (n : ℕ) (words : List ℕ) → length (flags_of n words) ≡ n
unfolding flags_of
length-flags n words = length-map-range_with_len (flag_at words) 0 n

pub flags-below : (n : ℕ) (words : List ℕ) (i : ℕ) → i < n → get_or (flags_of n words) i false ≡ flag_at words i
unfolding flags_of
flags-below n words i within = get_or-map-range_with_len (flag_at words) 0 n i i false within (zero-add i)

pub flags-at : (n : ℕ) (words : List ℕ) (i : ℕ) → AreWords n words → get_or (flags_of n words) i false ≡ flag_at words i
flags-at n words i are = go (cases_lt i n)
  where
    go : (i < n) ⊎ (n ≤ i) → get_or (flags_of n words) i false ≡ flag_at words i
    go (inl within) = flags-below n words i within
    go (inr past) = get_or_past (flags_of n words) i false (omega (arith, length-flags n words)) ∙ sym (are.clear i past)

-- flags are those of a list where each is
pub flags_are : (n : ℕ) (words : List ℕ) (flags : List Bool) → length flags ≡ n → ((i : ℕ) → i < n → flag_at words i ≡ get_or flags i false) → flags_of n words ≡ flags
flags_are n words flags long same = ext_get_or false (flags_of n words) flags (length-flags n words ∙ sym long) (λ i within. let below : i < n = omega (arith, length-flags n words) in flags-below n words i below ∙ same i below)

-- ---- one bit more or less

-- the word of a number, and the bit in it
pub same_place : (i el : ℕ) → i / 64 ≡ el / 64 → i % 64 ≡ el % 64 → i ≡ el
same_place i el words bits = omega arith

-- a word with another in its place changes the flags of that word alone
pub flag-other_word : (words : List ℕ) (el word i : ℕ) → i / 64 ≢ el / 64 → flag_at (set words (el / 64) word) i ≡ flag_at words i
flag-other_word words el word i other =
    flag_is (set words (el / 64) word) i
    ∙ ap (λ w. nat_eq (bit_at w (i % 64)) 1) (get_or-set_other words (el / 64) (i / 64) word 0 other)
    ∙ sym (flag_is words i)

pub flag-same_word : (words : List ℕ) (el word i : ℕ) → el / 64 < length words → i / 64 ≡ el / 64 → flag_at (set words (el / 64) word) i ≡ nat_eq (bit_at word (i % 64)) 1
flag-same_word words el word i within same =
    flag_is (set words (el / 64) word) i
    ∙ ap (λ w. nat_eq (bit_at w (i % 64)) 1) (ap (λ j. get_or (set words (el / 64) word) j 0) same ∙ get_or-set_same words (el / 64) word 0 within)

-- words of which one was put in place of another, that has this bit and the other bits of the old one
pub record Changes (words : List ℕ) (el word : ℕ) (flag : Bool) : Type 0 where
  pub within : el / 64 < length words
  pub small : word < 2 ^ 64
  pub here : nat_eq (bit_at word (el % 64)) 1 ≡ flag
  pub others : (k : ℕ) → k < 64 → k ≢ el % 64 → bit_at word k ≡ bit_at (get_or words (el / 64) 0) k

pub flag-here : (words : List ℕ) (el word : ℕ) (flag : Bool) → Changes words el word flag → flag_at (set words (el / 64) word) el ≡ flag
flag-here words el word flag changes = flag-same_word words el word el changes.within refl ∙ changes.here

pub flag-elsewhere : (words : List ℕ) (el word : ℕ) (flag : Bool) (i : ℕ) → Changes words el word flag → i ≢ el → flag_at (set words (el / 64) word) i ≡ flag_at words i
flag-elsewhere words el word flag i changes other = go (cases_eq (i / 64) (el / 64))
  where
    go : (i / 64 ≡ el / 64) ⊎ (i / 64 ≡ el / 64 → ⊥) → flag_at (set words (el / 64) word) i ≡ flag_at words i
    go (inr apart) = flag-other_word words el word i apart
    go (inl same) =
        let bit : i % 64 ≢ el % 64 = (λ bits. other (same_place i el same bits)) in
        flag-same_word words el word i changes.within same
        ∙ ap (λ b. nat_eq b 1) (changes.others (i % 64) (omega arith) bit ∙ ap (λ j. bit_at (get_or words j 0) (i % 64)) (sym same))
        ∙ sym (flag_is words i)

-- the flags with one set or cleared
pub flags-changed : (n : ℕ) (words : List ℕ) (el word : ℕ) (flag : Bool) → AreWords n words → el < n → Changes words el word flag → flags_of n (set words (el / 64) word) ≡ set (flags_of n words) el flag
flags-changed n words el word flag are below changes = flags_are n (set words (el / 64) word) (set (flags_of n words) el flag) (length-set (flags_of n words) el flag ∙ length-flags n words) (λ i within. go i within (cases_eq i el))
  where
    go : (i : ℕ) → i < n → (i ≡ el) ⊎ (i ≡ el → ⊥) → flag_at (set words (el / 64) word) i ≡ get_or (set (flags_of n words) el flag) i false
    go i within (inl same) = ap (λ j. flag_at (set words (el / 64) word) j) same ∙ flag-here words el word flag changes ∙ sym (ap (λ j. get_or (set (flags_of n words) el flag) j false) same ∙ get_or-set_same (flags_of n words) el flag false (omega (arith, length-flags n words)))
    go i within (inr other) = flag-elsewhere words el word flag i changes other ∙ sym (get_or-set_other (flags_of n words) el i flag false other ∙ flags-below n words i within)

pub words-changed : (n : ℕ) (words : List ℕ) (el word : ℕ) (flag : Bool) → AreWords n words → el < n → Changes words el word flag → AreWords n (set words (el / 64) word)
words-changed n words el word flag are below changes = record {
  n_fits = are.n_fits;
  count = length-set words (el / 64) word ∙ are.count;
  small = λ i. small i (cases_eq i (el / 64));
  clear = λ i past. flag-elsewhere words el word flag i changes (λ (same : i ≡ el). omega arith) ∙ are.clear i past;
}
  where
    small : (i : ℕ) → (i ≡ el / 64) ⊎ (i ≡ el / 64 → ⊥) → get_or (set words (el / 64) word) i 0 < 2 ^ 64
    small i (inl same) = (let e : get_or (set words (el / 64) word) i 0 ≡ word = ap (λ j. get_or (set words (el / 64) word) j 0) same ∙ get_or-set_same words (el / 64) word 0 changes.within in let P : ℕ → Type 0 = λ w. w < 2 ^ 64 in subst P (sym e) changes.small)
    small i (inr other) = (let e : get_or (set words (el / 64) word) i 0 ≡ get_or words i 0 = get_or-set_other words (el / 64) i word 0 other in let P : ℕ → Type 0 = λ w. w < 2 ^ 64 in subst P (sym e) (are.small i))

-- the count of flags where one changes
pub count-set : (flags : List Bool) (el : ℕ) (flag : Bool) → el < length flags → count_set (set flags el flag) + cond (get_or flags el false) 1 0 ≡ count_set flags + cond flag 1 0
count-set flags el flag within = sum_by-set (λ b. cond b 1 0) flags el flag false within

-- a flag that is as it was asked for
pub set-same : (flags : List Bool) (el : ℕ) (flag : Bool) → el < length flags → get_or flags el false ≡ flag → flags ≡ set flags el flag
set-same flags el flag within is = ext_get_or false flags (set flags el flag) (sym (length-set flags el flag)) (λ i below. go i (cases_eq i el))
  where
    go : (i : ℕ) → (i ≡ el) ⊎ (i ≡ el → ⊥) → get_or flags i false ≡ get_or (set flags el flag) i false
    go i (inl same) = ap (λ j. get_or flags j false) same ∙ is ∙ sym (ap (λ j. get_or (set flags el flag) j false) same ∙ get_or-set_same flags el flag false within)
    go i (inr other) = sym (get_or-set_other flags el i flag false other)
