-- Facets: a path of steps, and how it is written.
use Rattle.std.specs.Prelude.{[], ◌&&◌, ◌==◌, ◌||◌, ◌∷◌, Bool, List, None, Option, Some, bytes_eq, false, flat_map, if◌then◌else◌, length, nat_lt, not, option_map, true, ℕ}
use Rattle.std.specs.List.{join_with_byte, list_any, onto_first, starts_with}

-- `\`, which takes the next character as it stands, and `/`, which begins a step
abbrev pub backslash : ℕ
backslash = 92

-- what stands before each step
abbrev pub slash : ℕ
slash = 47

-- one empty step
abbrev pub root : List (List ℕ)
root = [] ∷ []

-- whether a facet is one empty step
abbrev pub is_root : List (List ℕ) → Bool
is_root ([] ∷ []) = true
is_root _ = false

-- the steps joined by U+0000
abbrev pub encoded : List (List ℕ) → List ℕ
encoded steps = join_with_byte 0 steps

-- the steps of what follows a slash; the flag says that a backslash stands before
abbrev pub steps_from : Bool → List ℕ → Option (List (List ℕ))
steps_from true [] = None
steps_from false [] = Some root
steps_from true (c ∷ cs) = option_map (onto_first c) (steps_from false cs)
steps_from false (c ∷ cs) = elim (c == backslash) [ true ↦ steps_from true cs | false ↦ option_map (if c == slash then (λ (steps : List (List ℕ)). [] ∷ steps) else onto_first c) (steps_from false cs) ]

-- the facet of a path, which begins with a slash and has no U+0000
abbrev pub facet_of_path : List ℕ → Option (List (List ℕ))
facet_of_path [] = None
facet_of_path (c ∷ cs) = if (c == slash) && not (list_any (◌==◌ 0) cs) then steps_from false cs else None

-- a step with a backslash before each slash and backslash
abbrev pub escaped : List ℕ → List ℕ
escaped step = flat_map (λ c. if (c == slash) || (c == backslash) then backslash ∷ c ∷ [] else c ∷ []) step

-- the path of a facet: a slash before each step
abbrev pub path_of : List (List ℕ) → List ℕ
path_of steps = flat_map (λ step. slash ∷ escaped step) steps

-- the facet of a list of steps, of which none holds U+0000; of no step it is the root
abbrev pub facet_of_steps : List (List ℕ) → Option (List (List ℕ))
facet_of_steps [] = Some root
facet_of_steps steps = if list_any (list_any (◌==◌ 0)) steps then None else Some steps

-- whether g is below f: f's steps are the first of g's, and not all; every other facet is below the root
abbrev pub is_prefix_of : List (List ℕ) → List (List ℕ) → Bool
is_prefix_of f g = if is_root f then not (is_root g) else nat_lt (length f) (length g) && starts_with bytes_eq g f
