-- Positions of a term: numbers in packed blocks of 128, and the last of them in bytes of seven bits.
use Rattle.std.specs.Prelude.{[], ◌*◌, ◌++◌, ◌-◌, ◌<◌, ◌^◌, ◌∷◌, ◌≡◌, List, drop, flat_map, length, slice_index, take, ℕ}
use Rattle.definitions.specs.NumberCodes.{vint_bytes}
use Rattle.layouts.specs.PackedBlocks.{IsBlock}
use Rattle.layouts.specs.VintBlocks.{numbers_bytes}

-- positions less those before them, the first less a given one
abbrev pub differences : ℕ → List ℕ → List ℕ
differences before [] = []
differences before (p ∷ ps) = (p - before) ∷ differences p ps

-- the numbers of a term: for each document its first position as it is, and then the differences
abbrev pub position_numbers : List (List ℕ) → List ℕ
position_numbers docs = flat_map (differences 0) docs

-- numbers in blocks of these widths, and then fewer than 128 in bytes of seven bits
abbrev pub AreBlocks : List ℕ → List ℕ → List ℕ → Type 0
AreBlocks [] numbers bytes = (length numbers < 128) × (bytes ≡ numbers_bytes numbers)
AreBlocks (w ∷ ws) numbers bytes = IsBlock w (take 128 numbers) (take (16 * w) bytes) × AreBlocks ws (drop 128 numbers) (drop (16 * w) bytes)

-- the bytes of these numbers: how many full blocks there are, a width for each, the blocks, and the rest
pub record ArePositions (numbers bytes : List ℕ) : Type 0 where
  pub widths : List ℕ
  pub packed : List ℕ
  pub bytes_are : bytes ≡ vint_bytes (length widths) ++ widths ++ packed
  pub blocks : AreBlocks widths numbers packed
  pub small : (i : ℕ) → slice_index numbers i < 2 ^ 31
