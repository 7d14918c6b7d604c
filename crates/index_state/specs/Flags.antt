-- Alive sets of segments: one for each of the first segments.
use Rattle.std.specs.Prelude.{Bool, List, map}
use Rattle.std.specs.List.{zip}
use Rattle.segment.specs.Opened.{bytes_of}
use Rattle.segment.specs.declared.segment.Segment as code
use Rattle.segment_definitions.specs.ListBodies.{Member}
pub use Rattle.segment_search.specs.Flags.{AreFlagged, flagged_each}

-- the bytes of the first segments, each with its flags
abbrev pub members : List code.Segment → List (List Bool) → List Member
members segments sets = zip (map bytes_of segments) sets
