-- Strict deltas of ascending documents: each less the one before less 1, the first as it is.
-- They begin at the least document that may come: 0, or the document before plus 1.
use Rattle.std.specs.Prelude.{[], ◌∷◌, ◌+◌, ◌-◌, ◌≤◌, if◌then◌else◌, List, nat_eq, ℕ}

-- The least document after an offset: the document before, or 0 where none stands before.
abbrev pub next_of : ℕ → ℕ
next_of offset = if nat_eq offset 0 then 0 else offset + 1

-- each document comes after the one before
abbrev pub IsAscendingFrom : ℕ → List ℕ → Type 0
IsAscendingFrom next [] = Unit {0}
IsAscendingFrom next (doc ∷ docs) = (next ≤ doc) × IsAscendingFrom (doc + 1) docs

-- each document less the least that may come
abbrev pub deltas : ℕ → List ℕ → List ℕ
deltas next [] = []
deltas next (doc ∷ docs) = (doc - next) ∷ deltas (doc + 1) docs

-- each delta on the least document that may come
abbrev pub documents : ℕ → List ℕ → List ℕ
documents next [] = []
documents next (x ∷ xs) = (next + x) ∷ documents (next + x + 1) xs
