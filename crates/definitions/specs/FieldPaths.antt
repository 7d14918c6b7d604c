-- Paths that begin with a field's name.
use Rattle.std.specs.Prelude.{[], ◌++◌, ◌==◌, ◌∷◌, Bool, List, None, Option, Some, false, filter_map, if◌then◌else◌, map, option_map, true, ℕ}
use Rattle.std.specs.List.{last_or}
use Rattle.definitions.specs.Facets.{backslash}
use Rattle.definitions.specs.Schema.{Schema, field_named}

-- what stands before and after each dot that no backslash takes, the first dot first; the flag says that
-- a backslash takes the next character
abbrev pub splits_from : Bool → List ℕ → List (List ℕ × List ℕ)
splits_from escape [] = []
splits_from true (c ∷ cs) = map (λ p. (c ∷ p.0, p.1)) (splits_from false cs)
splits_from false (c ∷ cs) = let here = if c == 46 then ([], cs) ∷ [] else [] in here ++ map (λ p. (c ∷ p.0, p.1)) (splits_from (c == backslash) cs)

-- a field and what follows it
abbrev pub field_at_split : Schema → List ℕ × List ℕ → Option (ℕ × List ℕ)
field_at_split schema (name, rest) = option_map (λ field. (field, rest)) (field_named schema name)

-- the field that the whole text names, or else the longest part before such a dot, and the rest after it
abbrev pub find_field : Schema → List ℕ → Option (ℕ × List ℕ)
find_field schema s = elim (field_named schema s) [ Some field ↦ Some (field, []) | None ↦ last_or None (filter_map (field_at_split schema) (splits_from false s)) ]
