-- What a query finds over segments: addresses of living documents with their scores, one segment after the other.
use Rattle.std.specs.Prelude.{[], ◌++◌, ◌∷◌, List, false, map, slice_index_or, suc, ℕ}
use Rattle.definitions.specs.Alive.{Segment}
use Rattle.definitions.specs.Analyzers.{Analyzer}
use Rattle.definitions.specs.Answers.{answers, living_answers}
use Rattle.definitions.specs.Query.{Query}
use Rattle.definitions.specs.Scanning.{Hit}
use Rattle.definitions.specs.Schema.{Schema}
use Rattle.definitions.specs.Scoring.{Similarity}
use Rattle.definitions.specs.Stored.{stored_values}

-- a document of a segment by their numbers, and its score
pub record Place : Type 0 where
  pub segment : ℕ
  pub doc : ℕ
  pub score : ℕ

-- the living documents of a segment that match
abbrev pub places_in : Schema → Analyzer → Similarity → Query → ℕ → Segment → List Place
places_in schema analyze sim q number rows = map (λ p. record { segment = number; doc = p.0; score = p.1 }) (living_answers (map (λ row. row.1) rows) (answers schema analyze sim 1 q (map (λ row. row.0) rows)))

-- those of segments that are numbered from one on
abbrev pub places_from : Schema → Analyzer → Similarity → Query → ℕ → List Segment → List Place
places_from schema analyze sim q number [] = []
places_from schema analyze sim q number (rows ∷ more) = places_in schema analyze sim q number rows ++ places_from schema analyze sim q (suc number) more

-- what is shown of an address: its score, and the stored values of its document
abbrev pub shown_at : Schema → List Segment → Place → Hit
shown_at schema rows address = (address.score, stored_values schema (slice_index_or (slice_index_or rows address.segment []) address.doc ([], false)).0)
