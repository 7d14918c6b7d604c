-- A document that one list has, and all of several others may have.
use Rattle.std.specs.Prelude.{[], ◌+◌, ◌∷◌, List, if◌then◌else◌, length, sum, ℕ}
use Rattle.docsets.specs.Entries.{Entry}
use Rattle.docsets.specs.Members.{enough, entries_at, scores_in}

-- the document with a score and those that the lists have of it added, if all of them have it
abbrev pub met_at : ℕ → ℕ → List (List Entry) → List (ℕ × ℕ)
met_at d score ess = if enough (length ess) ess d then (d, score + sum (scores_in (entries_at d ess))) ∷ [] else []
