-- Which documents of a segment match, whatever their scores.
use Rattle.std.specs.Prelude.{◌≡◌, List, None, Some, filter_map, if◌then◌else◌, map, ℕ}
use Rattle.std.specs.List.{enumerate_from}
use Rattle.docsets.specs.Entries.{Entry}
use Rattle.definitions.specs.Analyzers.{Analyzer}
use Rattle.definitions.specs.Matching.{matches}
use Rattle.definitions.specs.Query.{Query}
use Rattle.definitions.specs.Refusing.{tree_fault}
use Rattle.definitions.specs.Schema.{Schema}
use Rattle.definitions.specs.Values.{Document}
use Rattle.segment_reader.specs.SegmentReaders.{StandsFor}
use Rattle.segment_reader.specs.declared.segment_reader.SegmentReader.{SegmentReader}

-- the places of the documents that match, ascending from 0
abbrev pub matching : Schema → Analyzer → Query → List Document → List ℕ
matching schema analyze q docs = filter_map (λ p. if matches schema analyze p.1 q then Some p.0 else None) (enumerate_from 0 docs)

-- a cursor has the documents that match a query in a segment, under each schema that doesn't refuse the query
pub record Matches (weight : List ℕ → ℕ) (b : ℕ) (q : Query) (r : SegmentReader) (es : List Entry) : Type 0 where
  pub documents_are : (schema : Schema) (analyze : Analyzer) (docs : List Document) → StandsFor schema analyze docs r → tree_fault schema weight b q ≡ None → map (λ e. e.doc) es ≡ matching schema analyze q docs
