-- How the numbers at a block's end are read.
use Rattle.std.specs.Prelude.{[], ◌&&◌, ◌+◌, ◌∷◌, ◌≡◌, Bool, List, length, nat_eq, nat_le, slice_index, ℕ}
use Rattle.std.specs.Int.{from_le_bytes, w32}
use Rattle.layouts.specs.Stores.{IsBlock}

-- the number of 32 bits at an offset
abbrev pub number_at : List ℕ → ℕ → ℕ
number_at bytes at = from_le_bytes w32 (slice_index bytes at ∷ slice_index bytes (at + 1) ∷ slice_index bytes (at + 2) ∷ slice_index bytes (at + 3) ∷ [])

-- the numbers of 32 bits that stand one after another
abbrev pub numbers : List ℕ → List ℕ
numbers [] = []
numbers (a ∷ []) = []
numbers (a ∷ b ∷ []) = []
numbers (a ∷ b ∷ c ∷ []) = []
numbers (a ∷ b ∷ c ∷ d ∷ bs) = from_le_bytes w32 (a ∷ b ∷ c ∷ d ∷ []) ∷ numbers bs

-- offsets that don't fall, from one to an end
abbrev pub ascend : ℕ → ℕ → List ℕ → Bool
ascend end at [] = nat_le at end
ascend end at (s ∷ ss) = nat_le at s && ascend end s ss

-- offsets at which documents start whose bytes end at `end`
abbrev pub are_starts : ℕ → List ℕ → Bool
are_starts end [] = nat_eq end 0
are_starts end (s ∷ ss) = nat_eq s 0 && ascend end 0 ss

-- the bytes are a block of `count` documents
abbrev pub IsBlockOf : ℕ → List ℕ → Type 0
IsBlockOf count bytes = (docs : List (List ℕ)) × (length docs ≡ count) × IsBlock docs bytes
