-- Documents of a segment, of which some may be dead.
use Rattle.std.specs.Prelude.{◌≡◌, Bool, List, replicate, true}
use Rattle.std.specs.Option.{option_map_or}
use Rattle.definitions.specs.Alive.{Segment}
use Rattle.definitions.specs.Analyzers.{Analyzer}
use Rattle.definitions.specs.Merging.{documents_in, flags_of}
use Rattle.definitions.specs.Schema.{Schema}
use Rattle.segment_reader.specs.SegmentReaders.{StandsFor, alive_in, max_doc_of}
use Rattle.segment_reader.specs.declared.segment_reader.SegmentReader.{SegmentReader}

-- a flag for each document, whether it is alive: all are where no set tells otherwise
abbrev pub flags_in : SegmentReader → List Bool
flags_in r = option_map_or (λ flags. flags) (alive_in r) (replicate (max_doc_of r) true)

-- a segment stands for these documents, of which these are alive
pub record HasRows (schema : Schema) (analyze : Analyzer) (rows : Segment) (r : SegmentReader) : Type 0 where
  pub stands : StandsFor schema analyze (documents_in rows) r
  pub flags_are : flags_of rows ≡ flags_in r
