-- What waits for a commit, as a writer keeps it: documents in segments, and deletions with the number of documents before them.
use Rattle.std.specs.Prelude.{[], ◌&&◌, ◌++◌, ◌+◌, ◌<◌, ◌∷◌, ◌≡◌, Bool, List, flat_map, length, nat_lt, not, suc, ℕ}
use Rattle.std.specs.List.{list_any}
use Rattle.definitions.specs.Alive.{Segment}
use Rattle.definitions.specs.State.{Pending, added, deleted}
use Rattle.definitions.specs.Values.{Document}

-- a term, and how many pending documents stood before its deletion
abbrev pub Numbered : Type 0
Numbered = List ℕ × ℕ

-- the documents that calls add
abbrev pub docs_of : List Pending → List Document
docs_of [] = []
docs_of (added doc ∷ calls) = doc ∷ docs_of calls
docs_of (deleted t ∷ calls) = docs_of calls

-- the deletions of calls, where the first document has a number
abbrev pub deletions_from : ℕ → List Pending → List Numbered
deletions_from n [] = []
deletions_from n (added doc ∷ calls) = deletions_from (suc n) calls
deletions_from n (deleted t ∷ calls) = (t, n) ∷ deletions_from n calls

-- whether some deletion removes the document of a number
abbrev pub is_removed : (List ℕ → Document → Bool) → List Numbered → ℕ → Document → Bool
is_removed has dels i doc = list_any (λ del. nat_lt i del.1 && has del.0 doc) dels

-- documents numbered from one on, each with whether it is left
abbrev pub numbered_rows : (List ℕ → Document → Bool) → List Numbered → ℕ → List Document → Segment
numbered_rows has dels i [] = []
numbered_rows has dels i (doc ∷ docs) = (doc, not (is_removed has dels i doc)) ∷ numbered_rows has dels (suc i) docs

-- the rows of segments of `n` documents each
abbrev pub pending_rows : (List ℕ → Document → Bool) → List Numbered → ℕ → ℕ → List (List Document) → List Segment
pending_rows has dels n i [] = []
pending_rows has dels n i (docs ∷ more) = numbered_rows has dels i docs ∷ pending_rows has dels n (i + n) more

-- each has n documents
abbrev pub AllLong : ℕ → List (List Document) → Type 0
AllLong n [] = Unit {0}
AllLong n (docs ∷ more) = (length docs ≡ n) × AllLong n more

-- rows numbered from one on, after the removed documents died
abbrev pub struck_from : (List ℕ → Document → Bool) → List Numbered → ℕ → Segment → Segment
struck_from has dels i [] = []
struck_from has dels i (row ∷ rows) = (row.0, row.1 && not (is_removed has dels i row.0)) ∷ struck_from has dels (suc i) rows

-- What waits for a commit: full segments of n documents each, the documents of one that isn't full, and the deletions, each
-- with how many documents were added before it.
pub record Waits (n : ℕ) (pending : List Pending) (full : List (List Document)) (last : List Document) (dels : List Numbered) : Type 0 where
  pub docs : docs_of pending ≡ flat_map (λ docs. docs) full ++ last
  pub long : AllLong n full
  pub short : length last < n
  pub deletions : deletions_from 0 pending ≡ dels
