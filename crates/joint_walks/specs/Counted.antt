-- Counts of what matches in a segment.
use Rattle.std.specs.Prelude.{◌≡◌, List, None, ℕ}
use Rattle.definitions.specs.Alive.{Segment}
use Rattle.definitions.specs.Analyzers.{Analyzer}
use Rattle.definitions.specs.Answers.{living_count}
use Rattle.definitions.specs.Query.{Query}
use Rattle.definitions.specs.Refusing.{tree_fault}
use Rattle.definitions.specs.Schema.{Schema}
use Rattle.docsets.specs.Entries.{Entry}
use Rattle.scorer_answers.specs.Matching.{Matches}
use Rattle.scorer_answers.specs.Rows.{HasRows}
use Rattle.segment_reader.specs.declared.segment_reader.SegmentReader.{SegmentReader}

-- it is the number of the living documents of a segment that match a query, under each schema that doesn't refuse the
-- query
abbrev pub IsCountIn : SegmentReader → (List ℕ → ℕ) → ℕ → Query → ℕ → Type 0
IsCountIn r weight b q n = (schema : Schema) (analyze : Analyzer) (rows : Segment) → HasRows schema analyze rows r → tree_fault schema weight b q ≡ None → n ≡ living_count schema analyze q rows

-- it is that of each query that all of these lists match
abbrev pub IsCountBy : SegmentReader → (List Entry → Type 0) → ℕ → Type 0
IsCountBy r HasThem n = (weight : List ℕ → ℕ) (b : ℕ) (q : Query) → ((es : List Entry) → HasThem es → Matches weight b q r es) → IsCountIn r weight b q n
