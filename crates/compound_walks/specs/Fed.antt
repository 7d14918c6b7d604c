-- What a sink was fed of a query in a segment.
use Rattle.std.specs.Prelude.{◌<◌, ◌≡◌, ◌≤◌, List, ℕ, ℤ}
use Rattle.any_scorer.specs.Clauses.{by_best, scores_of}
use Rattle.definitions.specs.Postings.{terminated}
use Rattle.definitions.specs.Query.{Query}
use Rattle.definitions.specs.Scoring.{Similarity}
use Rattle.definitions.specs.Sinks as sinks
use Rattle.docsets.specs.Entries.{Entry, Rising}
use Rattle.docsets.specs.Members.{greatest_sum}
use Rattle.docsets.specs.ScoredEntries.{greatest_score, pairs_of}
use Rattle.query_scorers.specs.Scores.{Scores}
use Rattle.segment_reader.specs.declared.segment_reader.SegmentReader.{SegmentReader}

-- it was fed what the query answers in the segment under a boost
pub record IsFedBy {S : Type 0} (limit : S → ℤ) (taken : S → ℕ × ℕ → S) (before : S) (sim : Similarity) (b : ℕ) (q : Query) (r : SegmentReader) (after : S) : Type 0 where
  pub entries : List Entry
  pub scores : Scores sim b q r entries
  pub rises : Rising 0 entries
  pub fed : after ≡ sinks.fed limit taken before (pairs_of entries)

-- a list has of each document its best score in several lists, with a share of the others
pub record HasBest (tie : ℕ) (disjuncts : List (List Entry)) (es : List Entry) : Type 0 where
  pub rises : Rising 0 es
  pub scores : (d : ℕ) → d < terminated → scores_of d es ≡ by_best tie disjuncts d
  pub bounded : greatest_score es ≤ greatest_sum disjuncts
