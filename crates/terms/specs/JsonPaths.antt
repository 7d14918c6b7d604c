-- Paths of keys written as texts.
use Rattle.std.specs.Prelude.{[], ◌==◌, ◌∷◌, Bool, List, false, if◌then◌else◌, true, ℕ}
use Rattle.std.specs.List.{onto_first}
use Rattle.definitions.specs.Facets.{backslash}

-- the keys of what follows; the flag says that a backslash stands before
abbrev pub keys_from : Bool → List ℕ → List (List ℕ)
keys_from escaped [] = [] ∷ []
keys_from true (c ∷ cs) = onto_first c (keys_from false cs)
keys_from false (c ∷ cs) = elim (c == backslash) [ true ↦ keys_from true cs | false ↦ (if c == 46 then (λ (keys : List (List ℕ)). [] ∷ keys) else onto_first c) (keys_from false cs) ]

-- the keys of a path: a dot parts them, and a backslash takes the next character as it stands
abbrev pub keys_in : List ℕ → List (List ℕ)
keys_in path = keys_from false path
