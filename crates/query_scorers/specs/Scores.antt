-- What scorers of queries have in a segment.
use Rattle.std.specs.Prelude.{[], ⊤, ◌∷◌, ◌≡◌, ◌≤◌, List, None, ℕ}
use Rattle.docsets.specs.Entries.{Entry, from}
use Rattle.definitions.specs.Analyzers.{Analyzer}
use Rattle.definitions.specs.Answers.{answers}
use Rattle.definitions.specs.Query.{Query}
use Rattle.definitions.specs.Refusing.{bound, tree_fault}
use Rattle.definitions.specs.Schema.{Schema}
use Rattle.definitions.specs.Scoring.{Similarity}
use Rattle.definitions.specs.Values.{Document}
use Rattle.docsets.specs.ScoredEntries.{greatest_score, pairs_of}
use Rattle.segment_reader.specs.SegmentReaders.{StandsFor, max_doc_of}
use Rattle.segment_reader.specs.declared.segment_reader.SegmentReader.{SegmentReader}

-- a cursor has what a query answers in a segment under a boost: for all documents that the segment stands for, under each
-- schema that doesn't refuse the query, those that match with their scores; no document is past the segment's last, and no
-- score above the query's bound
pub record Scores (sim : Similarity) (b : ℕ) (q : Query) (r : SegmentReader) (es : List Entry) : Type 0 where
  pub answers_are : (schema : Schema) (analyze : Analyzer) (docs : List Document) → StandsFor schema analyze docs r → tree_fault schema sim.weight b q ≡ None → pairs_of es ≡ answers schema analyze sim b q docs
  pub within : from (max_doc_of r) es ≡ []
  pub bounded : greatest_score es ≤ bound sim.weight b q

-- each of several cursors has what the query at its index answers
abbrev pub AllScore : Similarity → ℕ → SegmentReader → List Query → List (List Entry) → Type 0
AllScore sim b r [] [] = ⊤
AllScore sim b r [] (es ∷ ess) = ⊥
AllScore sim b r (q ∷ qs) [] = ⊥
AllScore sim b r (q ∷ qs) (es ∷ ess) = Scores sim b q r es × AllScore sim b r qs ess
