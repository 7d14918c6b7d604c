-- Lists of numbers and of ascending documents in bytes of seven bits: how they are put, and how they are taken back.
use Rattle.std.specs.Prelude.{[], ◌^◌, ◌∷◌, Bool, List, None, Option, Some, flat_map, nat_lt, suc, zero, ℕ}
use Rattle.std.specs.List.{list_all}
use Rattle.definitions.specs.Json.{only_if, ◌>>=◌}
use Rattle.definitions.specs.NumberCodes.{take_vint, vint_bytes}
use Rattle.layouts.specs.Deltas.{deltas, documents, next_of}

-- ---- putting

-- numbers, one after another
abbrev pub numbers_bytes : List ℕ → List ℕ
numbers_bytes numbers = flat_map vint_bytes numbers

-- ascending documents behind an offset, by their deltas
abbrev pub documents_bytes : ℕ → List ℕ → List ℕ
documents_bytes offset docs = numbers_bytes (deltas (next_of offset) docs)

-- ---- taking: what stands first, and the rest

-- whether a number is below 2^32
abbrev pub is_u32 : ℕ → Bool
is_u32 n = nat_lt n (2 ^ 32)

-- a number below 2^32
abbrev pub take_number : List ℕ → Option (ℕ × List ℕ)
take_number bs = do
  p ← take_vint bs
  only_if (is_u32 p.0) (Some p)

-- a number of numbers
abbrev pub take_numbers : ℕ → List ℕ → Option (List ℕ × List ℕ)
take_numbers zero bs = Some ([], bs)
take_numbers (suc n) bs = do
  p ← take_number bs
  q ← take_numbers n p.1
  Some (p.0 ∷ q.0, q.1)

-- `n` documents below 2^32 behind an offset
abbrev pub take_documents : ℕ → ℕ → List ℕ → Option (List ℕ × List ℕ)
take_documents offset n bs = do
  p ← take_numbers n bs
  only_if (list_all is_u32 (documents (next_of offset) p.0)) (Some (documents (next_of offset) p.0, p.1))

-- all numbers up to the end, at most `n`
abbrev pub take_all_numbers : ℕ → List ℕ → Option (List ℕ)
take_all_numbers n [] = Some []
take_all_numbers zero (b ∷ bs) = None
take_all_numbers (suc n) (b ∷ bs) = do
  p ← take_number (b ∷ bs)
  ns ← take_all_numbers n p.1
  Some (p.0 ∷ ns)
