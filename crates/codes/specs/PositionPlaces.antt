-- Positions by their differences.
use Rattle.std.specs.Prelude.{[], ◌+◌, ◌∷◌, List, ℕ}

-- positions by their differences, the first from a given one on
abbrev pub places : ℕ → List ℕ → List ℕ
places before [] = []
places before (x ∷ xs) = (before + x) ∷ places (before + x) xs
