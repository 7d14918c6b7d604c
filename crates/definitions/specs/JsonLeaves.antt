-- What stands in a JSON value, and on which path.
use Rattle.std.specs.Prelude.{[], ◌++◌, ◌==◌, ◌∷◌, Bool, List, None, Option, Some, bytes_eq, filter, filter_map, if◌then◌else◌, is_some, map, not, ℕ}
use Rattle.std.specs.List.{list_any}
use Rattle.definitions.specs.Terms.{path_of_keys}
use Rattle.definitions.specs.Values.{Members, Value, Values, array, member, no_members, no_values, object, str, value}

-- whether a key holds U+0000
abbrev pub has_zero : List ℕ → Bool
has_zero key = list_any (◌==◌ 0) key

-- The leaves with their paths, in order. Arrays share their path; under a key with U+0000 nothing is found.
abbrev mutual
  pub leaves : Bool → List (List ℕ) → Value → List (List ℕ × Value)
  leaves dots keys (array vs) = values_leaves dots keys vs
  leaves dots keys (object ms) = members_leaves dots keys ms
  leaves dots keys v = (path_of_keys dots keys, v) ∷ []

  pub values_leaves : Bool → List (List ℕ) → Values → List (List ℕ × Value)
  values_leaves dots keys no_values = []
  values_leaves dots keys (value v vs) = leaves dots keys v ++ values_leaves dots keys vs

  pub members_leaves : Bool → List (List ℕ) → Members → List (List ℕ × Value)
  members_leaves dots keys no_members = []
  members_leaves dots keys (member k v ms) = (if has_zero k then [] else leaves dots (keys ++ (k ∷ [])) v) ++ members_leaves dots keys ms

-- the elements, each once
abbrev pub once : {X : Type 0} → (X → X → Bool) → List X → List X
once eq [] = []
once eq (x ∷ xs) = x ∷ filter (λ y. not (eq x y)) (once eq xs)

-- the text at a leaf
abbrev pub leaf_text : Value → Option (List ℕ)
leaf_text (str s) = Some s
leaf_text _ = None

-- whether a leaf is a text
abbrev pub is_text_leaf : Value → Bool
is_text_leaf v = is_some (leaf_text v)

-- the texts on a path, in order
abbrev pub texts_at : List ℕ → List (List ℕ × Value) → List (List ℕ)
texts_at path ls = filter_map (λ l. leaf_text l.1) (filter (λ l. bytes_eq l.0 path) ls)

-- the paths on which texts stand
abbrev pub text_paths : List (List ℕ × Value) → List (List ℕ)
text_paths ls = once bytes_eq (map (λ l. l.0) (filter (λ l. is_text_leaf l.1) ls))
