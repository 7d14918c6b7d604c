-- What clauses have together, by the lists of their scorers.
use Rattle.std.specs.Prelude.{◌+◌, ◌<◌, ◌≡◌, ◌≤◌, List, ℕ, ℤ}
use Rattle.any_scorer.specs.Clauses.{by_clauses, scores_of}
use Rattle.definitions.specs.Postings.{terminated}
use Rattle.definitions.specs.Sinks as sinks
use Rattle.docsets.specs.Entries.{Entry, Rising}
use Rattle.docsets.specs.Members.{greatest_sum}
use Rattle.docsets.specs.ScoredEntries.{greatest_score, pairs_of}

-- a list has of each document what clauses have that ask for a minimum of what should match, by the lists of those that
-- must match, those that should, and those that must not
pub record HasClauses (minimum : ℕ) (musts shoulds must_nots : List (List Entry)) (es : List Entry) : Type 0 where
  pub rises : Rising 0 es
  pub scores : (d : ℕ) → d < terminated → scores_of d es ≡ by_clauses minimum musts shoulds must_nots d
  pub bounded : greatest_score es ≤ greatest_sum musts + greatest_sum shoulds

-- it was fed a list of which this is said
pub record IsFedSuch {S : Type 0} (limit : S → ℤ) (taken : S → ℕ × ℕ → S) (before : S) (Has : List Entry → Type 0) (after : S) : Type 0 where
  pub entries : List Entry
  pub has : Has entries
  pub fed : after ≡ sinks.fed limit taken before (pairs_of entries)
