-- Sets of numbers as words of 64 bits.
use Rattle.std.specs.Prelude.{[], ◌%◌, ◌+◌, ◌-◌, ◌/◌, ◌<◌, ◌^◌, ◌||◌, ◌∷◌, ◌≡◌, ◌≤◌, Bool, List, None, Option, Some, false, length, map, nat_eq, slice_index, true, ℕ}
use Rattle.std.specs.Int.{bit_at}
use Rattle.std.specs.List.{count_by, range_with_len}

-- whether number i is in: bit i of the words
unfoldable pub flag_at : List ℕ → ℕ → Bool
flag_at words i = nat_eq (bit_at (slice_index words (i / 64)) (i % 64)) 1

-- the flags of the numbers below n
unfoldable pub flags_of : ℕ → List ℕ → List Bool
flags_of n words = map (flag_at words) (range_with_len 0 n)

-- how many flags are set
abbrev pub count_set : List Bool → ℕ
count_set flags = count_by (λ flag. flag) flags

-- the numbers whose flags are set, in order; the first flag is that of n
abbrev pub numbers_from : ℕ → List Bool → List ℕ
numbers_from n [] = []
numbers_from n (true ∷ flags) = n ∷ numbers_from (n + 1) flags
numbers_from n (false ∷ flags) = numbers_from (n + 1) flags

-- the least number from one on whose flag is set; none where none is
abbrev pub IsFirst : (ℕ → Bool) → ℕ → Option ℕ → Type 0
IsFirst flag from None = (i : ℕ) → from ≤ i → flag i ≡ false
IsFirst flag from (Some at) = (from ≤ at) × (flag at ≡ true) × ((i : ℕ) → from ≤ i → i < at → flag i ≡ false)

-- words of the numbers below n: as few as hold them, with no bit from n on
pub record AreWords (n : ℕ) (words : List ℕ) : Type 0 where
  pub n_fits : n < 2 ^ 32
  pub count : length words ≡ (n + 63) / 64
  pub small : (i : ℕ) → slice_index words i < 2 ^ 64
  pub clear : (i : ℕ) → n ≤ i → flag_at words i ≡ false

-- they are the words of a set of `len` numbers below `n`
pub record IsBitSet (n : ℕ) (words : List ℕ) (len : ℕ) : Type 0 where
  pub words_are : AreWords n words
  pub len_is : len ≡ count_set (flags_of n words)

-- words that hold all numbers below n
pub record AreFull (n : ℕ) (words : List ℕ) : Type 0 where
  pub count : length words ≡ (n + 63) / 64
  pub words_full : (j : ℕ) → j < n / 64 → slice_index words j ≡ 2 ^ 64 - 1
  pub last : slice_index words (n / 64) ≡ 2 ^ (n % 64) - 1

-- whether the last word has no bit from n on
abbrev pub is_cut : ℕ → List ℕ → Bool
is_cut n words = nat_eq (n % 64) 0 || nat_eq (slice_index words (n / 64) / 2 ^ (n % 64)) 0
