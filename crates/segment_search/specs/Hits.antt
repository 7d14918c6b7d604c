-- Hits, and the documents that they are of.
use Rattle.std.specs.Prelude.{[], ◌<◌, ◌≡◌, ◌≤◌, List, length, map, pos, slice_index_or, ℤ}
use Rattle.std.specs.List.{AllByRecursion, AllZip}
use Rattle.best_k.specs.Kept.{ScoredAddress}
use Rattle.definitions.specs.Analyzers.{Analyzer}
use Rattle.definitions.specs.Scanning as scanning
use Rattle.definitions.specs.Schema.{Schema}
use Rattle.definitions.specs.Scoring.{max_score}
use Rattle.definitions.specs.Stored.{Named, stored_values}
use Rattle.definitions.specs.Values.{Document}
use Rattle.segment.specs.Opened.{IsOpened, StandsFor, blocks_of, bytes_of, num_docs_of}
use Rattle.segment.specs.declared.segment.Segment as code
use Rattle.segment_search.specs.declared.hits.StoredHit.{StoredHit}

-- what a hit shows: its score, and the stored values of its document by the names of their fields
abbrev pub shown_hit : Schema → StoredHit → ℤ × Named
shown_hit schema h = (h.score, stored_values schema h.doc)

-- a hit, its score as an integer
abbrev pub scored : scanning.Hit → ℤ × Named
scored h = (pos h.0, h.1)

-- the document that was found, in segments of these documents
abbrev pub document_at : List (List Document) → ScoredAddress → Document
document_at docs found = slice_index_or (slice_index_or docs found.1 []) found.2 []

-- what is shown of it, with its score
abbrev pub shown_of : Schema → List (List Document) → ScoredAddress → ℤ × Named
shown_of schema docs found = (pos found.0, stored_values schema (document_at docs found))

-- it is a document of one of the segments, with a score in range
abbrev pub IsHeld : List code.Segment → ScoredAddress → Type 0
IsHeld segments found = (found.1 < length segments) × (found.0 ≤ max_score) × (found.2 < slice_index_or (map num_docs_of segments) found.1 0)

-- there is such a document
abbrev pub IsWithin : List (List Document) → ScoredAddress → Type 0
IsWithin docs found = found.2 < length (slice_index_or docs found.1 [])

-- segments that are read: they stand for what they stood for, with the same bytes and blocks
pub record KeepsSegments (old new : List code.Segment) : Type 0 where
  pub stands : (schema : Schema) (analyze : Analyzer) (docs : List (List Document)) → AllZip (StandsFor schema analyze) docs old → AllZip (StandsFor schema analyze) docs new
  pub opened : (schema : Schema) → AllByRecursion (IsOpened schema) old → AllByRecursion (IsOpened schema) new
  pub bytes : map bytes_of new ≡ map bytes_of old
  pub blocks : map blocks_of new ≡ map blocks_of old
  pub counts : map num_docs_of new ≡ map num_docs_of old
