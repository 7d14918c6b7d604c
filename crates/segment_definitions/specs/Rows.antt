-- Rows: the documents of a segment, each with whether it is alive.
use Rattle.std.specs.Prelude.{[], ◌&&◌, ◌∷◌, Bool, List, map, not, suc, zero, ℕ}
use Rattle.std.specs.List.{list_any}
use Rattle.definitions.specs.Alive.{Segment}
use Rattle.definitions.specs.Values.{Document}

-- documents, each with its flag
abbrev pub flagged : List Document → List Bool → Segment
flagged [] flags = []
flagged (doc ∷ docs) [] = []
flagged (doc ∷ docs) (flag ∷ flags) = (doc, flag) ∷ flagged docs flags

-- the row after a document that passes a test died
abbrev pub struck : (Document → Bool) → Document × Bool → Document × Bool
struck test row = (row.0, row.1 && not (test row.0))

-- the rows after the documents with one of the terms died
abbrev pub left_rows : (List ℕ → Document → Bool) → List (List ℕ) → Segment → Segment
left_rows has ts rows = map (struck (λ doc. list_any (λ t. has t doc) ts)) rows

-- the flags, the first of them with those of another set
abbrev pub cut_flags : ℕ → List Bool → List Bool → List Bool
cut_flags zero left flags = flags
cut_flags (suc k) [] flags = flags
cut_flags (suc k) (l ∷ left) [] = []
cut_flags (suc k) (l ∷ left) (flag ∷ flags) = (flag && l) ∷ cut_flags k left flags
