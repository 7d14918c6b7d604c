-- Lists of documents with scores, as a cursor has them left, and what is made of several.
use Rattle.std.specs.Prelude.{[], ⊤, ◌*◌, ◌+◌, ◌<◌, ◌==◌, ◌∷◌, ◌≤◌, Bool, List, filter, flat_map, length, map, nat_le, not, ℕ}
use Rattle.std.specs.List.{list_any}
use Rattle.definitions.specs.JsonLeaves.{once}
use Rattle.definitions.specs.Postings.{terminated}
use Rattle.definitions.specs.Recorded.{ascending}
use Rattle.definitions.specs.Scoring.{max_score}

-- documents, each with its score
abbrev pub ScoredList : Type 0
ScoredList = List (ℕ × ℕ)

-- the documents ascend from one on, each once, up to where cursors end, and no score is above the greatest
abbrev pub AreScoredFrom : ℕ → ScoredList → Type 0
AreScoredFrom least [] = ⊤
AreScoredFrom least (p ∷ ps) = (least ≤ p.0) × (p.0 < terminated) × (p.1 ≤ max_score) × AreScoredFrom (p.0 + 1) ps

-- the documents alone
abbrev pub documents_of : ScoredList → List ℕ
documents_of ps = map (λ p. p.0) ps

-- the document on which a cursor stands that has this left
abbrev pub first_document : ScoredList → ℕ
first_document [] = terminated
first_document (p ∷ ps) = p.0

-- what is left from a document on
abbrev pub from_document : ℕ → ScoredList → ScoredList
from_document doc ps = filter (λ p. nat_le doc p.0) ps

-- ---- one list

-- documents with one score
abbrev pub each_scoring : ℕ → List ℕ → ScoredList
each_scoring score docs = map (λ doc. (doc, score)) docs

-- each score times a boost
abbrev pub boosted : ℕ → ScoredList → ScoredList
boosted b ps = map (λ p. (p.0, b * p.1)) ps

-- a constant in place of each score
abbrev pub rescored : ℕ → ScoredList → ScoredList
rescored constant ps = map (λ p. (p.0, constant)) ps

-- ---- several lists

-- the scores of a document in a list: one where the list has it, and else none
abbrev pub scores_in : ℕ → ScoredList → List ℕ
scores_in doc ps = map (λ p. p.1) (filter (λ p. p.0 == doc) ps)

-- its scores in several lists, in the order of these
abbrev pub scores_at : ℕ → List ScoredList → List ℕ
scores_at doc lists = flat_map (scores_in doc) lists

-- the documents of several lists, ascending, each once
abbrev pub all_documents : List ScoredList → List ℕ
all_documents lists = once ◌==◌ (ascending (flat_map documents_of lists))

-- the documents that at least `minimum` lists have, each with what a combiner makes of its scores
abbrev pub at_least : ℕ → (List ℕ → ℕ) → List ScoredList → ScoredList
at_least minimum combine lists = map (λ doc. (doc, combine (scores_at doc lists))) (filter (λ doc. nat_le minimum (length (scores_at doc lists))) (all_documents lists))

-- the documents that some list has
abbrev pub union_of : (List ℕ → ℕ) → List ScoredList → ScoredList
union_of combine lists = at_least 1 combine lists

-- the documents that all lists have
abbrev pub meeting_of : (List ℕ → ℕ) → List ScoredList → ScoredList
meeting_of combine lists = at_least (length lists) combine lists

-- whether a list has a document
abbrev pub has_document : ℕ → ScoredList → Bool
has_document doc ps = list_any (λ p. p.0 == doc) ps

-- the documents that none of the others has
abbrev pub without_all : List ScoredList → ScoredList → ScoredList
without_all others ps = filter (λ p. not (list_any (has_document p.0) others)) ps

-- the documents of the required list, with the optional score where there is one
abbrev pub with_optional : (List ℕ → ℕ) → ScoredList → ScoredList → ScoredList
with_optional combine required optional = map (λ p. (p.0, combine (p.1 ∷ scores_in p.0 optional))) required

-- ---- combiners, beside `sum` and `best_and_tie`

-- a combiner that reads no score
abbrev pub no_score : List ℕ → ℕ
no_score scores = 1
