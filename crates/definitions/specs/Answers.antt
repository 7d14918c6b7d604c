-- What a query answers over a segment: places of documents with scores.
use Rattle.std.specs.Prelude.{Bool, List, None, Option, Some, count_by, false, filter, filter_map, if◌then◌else◌, ◌&&◌, ℕ}
use Rattle.std.specs.List.{enumerate_from, slice_index_or}
use Rattle.definitions.specs.Alive.{Segment}
use Rattle.definitions.specs.Analyzers.{Analyzer}
use Rattle.definitions.specs.Matching.{matches}
use Rattle.definitions.specs.Query.{Query}
use Rattle.definitions.specs.Schema.{Schema}
use Rattle.definitions.specs.ScoredLists.{ScoredList}
use Rattle.definitions.specs.Scoring.{Similarity, score}
use Rattle.definitions.specs.Values.{Document}

-- what a document at a place answers under a boost, if it matches
abbrev pub answer_at : Schema → Analyzer → Similarity → ℕ → Query → ℕ × Document → Option (ℕ × ℕ)
answer_at schema analyze sim b q (place, doc) = if matches schema analyze doc q then Some (place, score schema analyze sim doc b q) else None

-- the places of the documents that match, ascending from 0, each with its score under a boost
abbrev pub answers : Schema → Analyzer → Similarity → ℕ → Query → List Document → ScoredList
answers schema analyze sim b q docs = filter_map (answer_at schema analyze sim b q) (enumerate_from 0 docs)

-- those of living documents, by a flag for each place
abbrev pub living_answers : List Bool → ScoredList → ScoredList
living_answers flags ps = filter (λ p. slice_index_or flags p.0 false) ps

-- how many living documents match
abbrev pub living_count : Schema → Analyzer → Query → Segment → ℕ
living_count schema analyze q rows = count_by (λ row. row.1 && matches schema analyze row.0 q) rows
