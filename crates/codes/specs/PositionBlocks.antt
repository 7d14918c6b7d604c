-- What the blocks of positions stand for, and how a reader stands in them.
use Rattle.std.specs.Prelude.{[], ◌*◌, ◌++◌, ◌+◌, ◌<◌, ◌^◌, ◌∷◌, ◌≡◌, ◌≤◌, IsSome, List, drop, length, slice_index, take, ℕ}
use Rattle.layouts.specs.Positions.{AreBlocks}
use Rattle.layouts.specs.VintBlocks.{take_all_numbers}
use Rattle.codes.specs.UnpackedBlocks.{listed, unpacked}

-- the numbers of blocks of these widths, and of the rest
abbrev pub numbers_in : List ℕ → List ℕ → List ℕ
numbers_in [] bytes = listed (take_all_numbers 128 bytes)
numbers_in (w ∷ ws) bytes = unpacked w (take (16 * w) bytes) ++ numbers_in ws (drop (16 * w) bytes)

-- how many bytes the blocks of these widths take
abbrev pub packed_len : List ℕ → ℕ
packed_len [] = 0
packed_len (w ∷ ws) = 16 * w + packed_len ws

-- bytes that have a block of each width, and then a list
pub record HasBlocks (widths packed : List ℕ) : Type 0 where
  pub widths_fit : (i : ℕ) → slice_index widths i ≤ 32
  pub room : packed_len widths ≤ length packed
  pub rest : IsSome (take_all_numbers 128 (drop (packed_len widths) packed))

-- each is below 2^31
abbrev pub AreSmall : List ℕ → Type 0
AreSmall numbers = (i : ℕ) → slice_index numbers i < 2 ^ 31

-- bytes that have a block of each width up to an offset, where what follows decides
pub record HasAll (widths packed : List ℕ) (at : ℕ) : Type 0 where
  pub widths_fit : (i : ℕ) → slice_index widths i ≤ 32
  pub offset : at ≡ packed_len widths
  pub room : at ≤ length packed
  pub sound : (rest : List ℕ) → AreBlocks [] rest (drop at packed) → AreSmall rest → listed (take_all_numbers 128 (drop at packed)) ≡ rest → AreBlocks widths (numbers_in widths packed) packed × AreSmall (numbers_in widths packed)
  pub complete : (numbers : List ℕ) → AreBlocks widths numbers packed → AreSmall numbers → AreBlocks [] (drop (128 * length widths) numbers) (drop at packed) × AreSmall (drop (128 * length widths) numbers)

-- the numbers of a block are held, and where the block begins
pub record Holds (widths packed held : List ℕ) (block at : ℕ) : Type 0 where
  pub blocks : HasBlocks widths packed
  pub within : block ≤ length widths
  pub offset : at ≡ packed_len (take block widths)
  pub numbers : held ≡ take 128 (drop (128 * block) (numbers_in widths packed))
