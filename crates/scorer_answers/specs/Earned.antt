-- What one document of a segment earns.
use Rattle.std.specs.Prelude.{List, None, Option, Some, if◌then◌else◌, option_and_then, slice_get, ℕ}
use Rattle.definitions.specs.Analyzers.{Analyzer}
use Rattle.definitions.specs.Matching.{matches}
use Rattle.definitions.specs.Query.{Query}
use Rattle.definitions.specs.Schema.{Schema}
use Rattle.definitions.specs.Scoring.{Similarity, score}
use Rattle.definitions.specs.Values.{Document}

-- the score of a document under a boost, by its number; none where it doesn't match, or there is no such document
abbrev pub score_at : Schema → Analyzer → Similarity → ℕ → Query → List Document → ℕ → Option ℕ
score_at schema analyze sim b q docs place = option_and_then (λ doc. if matches schema analyze doc q then Some (score schema analyze sim doc b q) else None) (slice_get docs place)
