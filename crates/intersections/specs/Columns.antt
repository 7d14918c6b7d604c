-- Columns: the positions of each term of a document.
use Rattle.std.specs.Prelude.{[], ⊤, ◌<◌, ◌∷◌, ◌≡◌, List}
use Rattle.docsets.specs.Entries.{Entry, highest, single}
use Rattle.definitions.specs.Scoring.{DontFall}

-- each entry has one column of positions, which don't fall and are below the greatest number of 32 bits
abbrev pub HaveOneColumn : List Entry → Type 0
HaveOneColumn [] = ⊤
HaveOneColumn (e ∷ es) = (e.positions ≡ single e.positions ∷ []) × DontFall (single e.positions) × (highest (single e.positions) < 4294967295) × HaveOneColumn es
