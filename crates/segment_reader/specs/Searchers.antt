-- What a searcher has.
use Rattle.std.specs.Prelude.{List}
use Rattle.definitions.specs.Schema.{Schema}
use Rattle.segment_reader.specs.declared.searcher.Searcher.{Searcher}
use Rattle.segment_reader.specs.declared.segment_reader.SegmentReader.{SegmentReader}

-- its schema
abbrev pub schema_of : {T : Type 0} → Searcher T → Schema
schema_of s = s.schema.now

-- what scores come from
abbrev pub statistics_of : {T : Type 0} → Searcher T → T
statistics_of s = s.statistics.now

-- its segments, in order
abbrev pub readers_in : {T : Type 0} → Searcher T → List SegmentReader
readers_in s = s.segment_readers.items
