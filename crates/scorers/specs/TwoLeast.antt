-- The two least documents on which lists stand.
use Rattle.std.specs.Prelude.{[], ◌<◌, ◌∷◌, ◌≡◌, ◌≤◌, List, length, max, min, slice_index_or, take, ℕ}
use Rattle.definitions.specs.Postings.{terminated}
use Rattle.docsets.specs.Entries.{Entry, first}
use Rattle.docsets.specs.Members.{entries_at, least}
use Rattle.scorers.specs.declared.two_least.TwoLeast.{TwoLeast}

-- the least document on which one of them stands, one that stands on the least left out
abbrev pub next_least : List (List Entry) → ℕ
next_least [] = terminated
next_least (es ∷ ess) = min (max (first es) (least ess)) (next_least ess)

-- the least document, the index of the first list that stands on it, and the least document of the others
pub record AreTwoLeast (ess : List (List Entry)) (two : TwoLeast) : Type 0 where
  pub doc : two.doc ≡ least ess
  pub next : two.next ≡ next_least ess
  pub near : two.index ≤ length ess
  pub index : two.doc < terminated → (two.index < length ess) × (first (slice_index_or ess two.index []) ≡ two.doc)
  pub before : entries_at two.doc (take two.index ess) ≡ []
