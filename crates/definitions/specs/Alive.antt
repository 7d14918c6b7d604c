-- Segments: documents that may be dead.
use Rattle.std.specs.Prelude.{Bool, List, flat_map, map}
use Rattle.definitions.specs.State.{living}
use Rattle.definitions.specs.Values.{Document}

-- documents, each with whether it is alive
abbrev pub Segment : Type 0
Segment = List (Document × Bool)

-- each segment's living documents
abbrev pub live_groups : List Segment → List (List Document)
live_groups segments = map living segments

-- the living documents, one segment after the other
abbrev pub live : List Segment → List Document
live segments = flat_map living segments
