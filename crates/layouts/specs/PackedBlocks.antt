-- Packed blocks of 128 numbers of one width.
use Rattle.std.specs.Prelude.{◌≡◌, ◌<◌, ◌≤◌, ◌+◌, ◌*◌, ◌/◌, ◌%◌, ◌^◌, length, List, slice_index, ℕ}
use Rattle.std.specs.Int.{bit_at}
use Rattle.layouts.specs.Deltas.{IsAscendingFrom, deltas, next_of}

-- bit k of the bytes, the lowest bit of the first byte first
abbrev pub bit_in : List ℕ → ℕ → ℕ
bit_in bytes k = bit_at (slice_index bytes (k / 8)) (k % 8)

-- bit j of number i is bit i * w + j of 16 * w bytes
pub record IsPacked (w : ℕ) (numbers bytes : List ℕ) : Type 0 where
  pub count : length numbers ≡ 128
  pub long : length bytes ≡ 16 * w
  pub small : (i : ℕ) → slice_index numbers i < 2 ^ w
  pub bits : (i j : ℕ) → i < 128 → j < w → bit_at (slice_index numbers i) j ≡ bit_in bytes (i * w + j)

-- no lesser width holds all the numbers
abbrev pub IsLeastWidth : ℕ → List ℕ → Type 0
IsLeastWidth w numbers = (k : ℕ) → ((i : ℕ) → slice_index numbers i < 2 ^ k) → w ≤ k

-- the block of these numbers: packed at the least width that holds all, which is at most 32
pub record IsBlock (w : ℕ) (numbers bytes : List ℕ) : Type 0 where
  pub width : w ≤ 32
  pub packed : IsPacked w numbers bytes
  pub least : IsLeastWidth w numbers

-- the block of these documents after an offset: ascending, below 2 ^ 32, by their strict deltas
pub record IsSortedBlock (offset w : ℕ) (docs bytes : List ℕ) : Type 0 where
  pub ascending : IsAscendingFrom (next_of offset) docs
  pub small : (i : ℕ) → slice_index docs i < 2 ^ 32
  pub block : IsBlock w (deltas (next_of offset) docs) bytes
