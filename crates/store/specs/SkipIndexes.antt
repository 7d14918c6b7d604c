-- How a skip index is read and checked.
use Rattle.std.specs.Prelude.{[], ◌&&◌, ◌-◌, ◌^◌, ◌∷◌, Bool, List, Option, Some, drop, length, nat_eq, nat_le, nat_lt, suc, zero, ℕ}
use Rattle.definitions.specs.Json.{only_if, ◌>>=◌}
use Rattle.definitions.specs.NumberCodes.{take_vint}
use Rattle.layouts.specs.Stores.{max_docs}
use Rattle.layouts.specs.declared.checkpoint.Checkpoint.{Checkpoint}

-- the last of a number of numbers, and what follows them
abbrev pub take_last : ℕ → ℕ → List ℕ → Option (ℕ × List ℕ)
take_last zero last bs = Some (last, bs)
take_last (suc n) last bs = do
  p ← take_vint bs
  take_last n p.0 p.1

-- the bytes of the lowest layer
abbrev pub lowest_of : List ℕ → Option (List ℕ)
lowest_of bs = do
  count ← take_vint bs
  last ← take_last count.0 0 count.1
  only_if (nat_le last.0 (length last.1)) (Some (drop (length last.1 - last.0) last.1))

-- whether a checkpoint begins at a document and a byte, and holds a document
abbrev pub follows : ℕ → ℕ → Checkpoint → Bool
follows doc byte c = nat_eq c.doc_range.start doc && nat_eq c.byte_range.start byte && nat_lt doc c.doc_range.end && nat_le byte c.byte_range.end

-- whether checkpoints adjoin from a document and a byte, up to the limits
abbrev pub adjoins : ℕ → ℕ → List Checkpoint → Bool
adjoins doc byte [] = nat_le doc max_docs && nat_lt byte (2 ^ 64)
adjoins doc byte (c ∷ cs) = follows doc byte c && adjoins c.doc_range.end c.byte_range.end cs

-- the first checkpoint whose end passes a document
abbrev pub passes : ℕ → Checkpoint → Bool
passes doc c = nat_lt doc c.doc_range.end
