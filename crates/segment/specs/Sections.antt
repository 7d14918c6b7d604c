-- The sections of a segment, as they are taken from its bytes.
use Rattle.std.specs.Prelude.{List, Option, ℕ}
use Rattle.definitions.specs.Json.{◌>>=◌}
use Rattle.definitions.specs.NumberCodes.{take_count, take_u64}
use Rattle.segment_definitions.specs.Segments as layout
use Rattle.segment.specs.declared.sections.Sections.{Sections}

-- their bytes
abbrev pub sections_in : Sections → layout.Sections
sections_in s = record { terms = s.terms; postings = s.postings; positions = s.positions; norms = s.norms; store = s.store }

-- as many bytes as a number says, and what follows them
abbrev pub counted_bytes : ℕ × List ℕ → Option (List ℕ × List ℕ)
counted_bytes n = take_count n.0 n.1

-- a section behind its length, and what follows it
abbrev pub take_section : List ℕ → Option (List ℕ × List ℕ)
take_section bs = take_u64 bs >>= counted_bytes
