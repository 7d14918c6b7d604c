-- The parts of a body: a segment of the list before by its index there, or a new one.
use Rattle.std.specs.Prelude.{[], ◌∷◌, List, None, Option, option_map, suc, zero, ℕ}
use Rattle.definitions.specs.Json.{◌>>=◌}
use Rattle.definitions.specs.NumberCodes.{take_count, take_u32, take_u64}
use Rattle.segment_definitions.specs.ListBodies as layout
use Rattle.segment_definitions.specs.ListBodies.{fresh, kept}
use Rattle.index_file.specs.declared.part.Part as code
use Rattle.index_file.specs.declared.part.Part.TheVariants.{Fresh, Kept}

-- a part of the code, as the layout has it
abbrev pub part_of : code.Part → layout.Part
part_of (Kept index) = kept index
part_of (Fresh segment) = fresh segment.now

abbrev pub kept_at : ℕ × List ℕ → layout.Part × List ℕ
kept_at p = (kept p.0, p.1)

abbrev pub fresh_of : List ℕ × List ℕ → layout.Part × List ℕ
fresh_of p = (fresh p.0, p.1)

-- bytes of a given number are a new segment
abbrev pub fresh_behind : ℕ × List ℕ → Option (layout.Part × List ℕ)
fresh_behind n = option_map fresh_of (take_count n.0 n.1)

-- an index in the list before
abbrev pub take_kept : List ℕ → Option (layout.Part × List ℕ)
take_kept bs = option_map kept_at (take_u32 bs)

-- a length, and bytes of this number
abbrev pub take_fresh : List ℕ → Option (layout.Part × List ℕ)
take_fresh bs = take_u64 bs >>= fresh_behind

-- behind code 0 an index, behind code 1 a new segment
abbrev pub take_part : List ℕ → Option (layout.Part × List ℕ)
take_part [] = None
take_part (zero ∷ bs) = take_kept bs
take_part (suc zero ∷ bs) = take_fresh bs
take_part (suc (suc code) ∷ bs) = None
