-- A required list with an optional one.
use Rattle.std.specs.Prelude.{List, ◌∷◌, ◌≡◌, sum, ℕ}
use Rattle.docsets.specs.Entries.{Entry}
use Rattle.docsets.specs.ScoredEntries.{rescored_by}
use Rattle.docsets.specs.Members.{entries_of, scores_in}

-- what a combiner makes of an entry's score and the optional one, where there is one
abbrev pub score_with : (List ℕ → ℕ) → List Entry → Entry → ℕ
score_with combine optional e = combine (e.score ∷ scores_in (entries_of e.doc optional))

-- the required entries with these scores
abbrev pub with_optional : (List ℕ → ℕ) → List Entry → List Entry → List Entry
with_optional combine required optional = rescored_by (score_with combine optional) required

-- a combiner makes sums of the scores
abbrev pub AddsUp : (List ℕ → ℕ) → Type 0
AddsUp combine = (scores : List ℕ) → combine scores ≡ sum scores
