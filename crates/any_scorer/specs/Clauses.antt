-- What the scorers of several queries make of a document.
use Rattle.std.specs.Prelude.{[], List, ◌&&◌, ◌++◌, ◌∷◌, if◌then◌else◌, length, not, sum, ℕ}
use Rattle.docsets.specs.Entries.{Entry}
use Rattle.definitions.specs.Scoring.{best_and_tie}
use Rattle.docsets.specs.Members.{enough, entries_at, entries_of, scores_in}

-- the score of a document in a list: one where the list has it, and else none
abbrev pub scores_of : ℕ → List Entry → List ℕ
scores_of d es = scores_in (entries_of d es)

-- its scores in several lists
abbrev pub scores_at : ℕ → List (List Entry) → List ℕ
scores_at d ess = scores_in (entries_at d ess)

-- the sum of its scores in the lists, where `minimum` of them have it
abbrev pub by_number : ℕ → List (List Entry) → ℕ → List ℕ
by_number minimum ess d = if enough minimum ess d then sum (scores_at d ess) ∷ [] else []

-- the sum of its scores in the lists of clauses, where it has all that it must have, as many of those that it should have
-- as are asked for, one of either at least, and none that it must not have
abbrev pub by_clauses : ℕ → List (List Entry) → List (List Entry) → List (List Entry) → ℕ → List ℕ
by_clauses minimum musts shoulds must_nots d = if enough (length musts) musts d && enough minimum shoulds d && enough 1 (musts ++ shoulds) d && not (enough 1 must_nots d) then sum (scores_at d (musts ++ shoulds)) ∷ [] else []

-- its best score in the lists, with a share of the others, where one of them has it
abbrev pub by_best : ℕ → List (List Entry) → ℕ → List ℕ
by_best tie disjuncts d = if enough 1 disjuncts d then best_and_tie tie (scores_at d disjuncts) ∷ [] else []
