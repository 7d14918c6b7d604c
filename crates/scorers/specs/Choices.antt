-- The document on which a disjunction stands.
use Rattle.std.specs.Prelude.{◌≡◌, ◌≤◌, List, sum, ℕ}
use Rattle.definitions.specs.Postings.{terminated}
use Rattle.definitions.specs.Scoring.{max_score}
use Rattle.docsets.specs.Entries.{Entry, first}
use Rattle.docsets.specs.Members.{at_least, combining, entries_at, least, scores_in}

-- the document that was chosen is the first that enough lists have, and no list stands before it
pub record IsChosen {C : Type 0} (answer : C → List ℕ → ℕ) (total : C → ℕ) (minimum : ℕ) (combiner : C) (ess : List (List Entry)) (doc : ℕ) : Type 0 where
  pub at : doc ≡ first (at_least minimum (combining (answer combiner)) ess)
  pub leads : doc ≡ least ess
  pub small : doc ≤ terminated
  pub some : 1 ≤ minimum
  pub unused : total combiner ≡ 0
  pub fits : (d : ℕ) → sum (scores_in (entries_at d ess)) ≤ max_score
