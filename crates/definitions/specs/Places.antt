-- Places: where the tokens of several values stand.
use Rattle.std.specs.Prelude.{[], ◌++◌, ◌+◌, ◌∷◌, List, map, max, ℕ}
use Rattle.definitions.specs.Values.{Token}

-- the greatest of a number and those of a list
abbrev pub greatest_from : ℕ → List ℕ → ℕ
greatest_from least [] = least
greatest_from least (n ∷ ns) = max n (greatest_from least ns)

-- where the tokens of a value that begins there end
abbrev pub ends : ℕ → List Token → List ℕ
ends start ts = map (λ t. start + t.position + t.position_length) ts

-- where the next value begins
abbrev pub next_start : ℕ → ℕ → List Token → ℕ
next_start gap start ts = greatest_from start (ends start ts) + gap

-- the tokens of the values with their places, from a start on
abbrev pub places_from : ℕ → ℕ → List (List Token) → List (List ℕ × ℕ)
places_from gap start [] = []
places_from gap start (ts ∷ values) = map (λ t. (t.text, start + t.position)) ts ++ places_from gap (next_start gap start ts) values

-- the tokens of a field's values, or of those at one path, with their places
abbrev pub places : ℕ → List (List Token) → List (List ℕ × ℕ)
places gap values = places_from gap 0 values
