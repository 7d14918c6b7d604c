-- The terms of several members as one list.
use Rattle.std.specs.Prelude.{[], ◌∷◌, Bool, List, None, Option, Some, bytes_eq, false, flat_map, if◌then◌else◌, map, ℕ}
use Rattle.std.specs.Cmp.Lexicographic.{slice_cmp}
use Rattle.std.specs.Ordering.{is_lt, nat_cmp}
use Rattle.std.specs.declared.cmp.Ordering.TheVariants.{Equal, Greater, Less}

-- terms by their value bytes, each with what is told of it
abbrev pub Terms : Type 0 → Type 0
Terms Y = List (List ℕ × Y)

-- their value bytes
abbrev pub keys_of : {Y : Type 0} → Terms Y → List (List ℕ)
keys_of terms = map (λ t. t.0) terms

-- keys that ascend with one more, which stands once
abbrev pub with_key : List ℕ → List (List ℕ) → List (List ℕ)
with_key key [] = key ∷ []
with_key key (k ∷ keys) = let further = k ∷ with_key key keys in elim (slice_cmp nat_cmp key k) [ Less ↦ key ∷ k ∷ keys | Equal ↦ k ∷ keys | Greater ↦ further ]

-- keys in ascending order, each once
abbrev pub ascending_keys : List (List ℕ) → List (List ℕ)
ascending_keys [] = []
ascending_keys (k ∷ keys) = with_key k (ascending_keys keys)

-- the keys of all members, in ascending order and each once
abbrev pub merged_keys : {Y : Type 0} → List (Terms Y) → List (List ℕ)
merged_keys members = ascending_keys (flat_map keys_of members)

-- ---- the first terms

-- the key of the first term
abbrev pub first_key : {Y : Type 0} → Terms Y → Option (List ℕ)
first_key [] = None
first_key (t ∷ terms) = Some t.0

-- whether it is that key
abbrev pub begins_with : {Y : Type 0} → List ℕ → Terms Y → Bool
begins_with key [] = false
begins_with key (t ∷ terms) = bytes_eq t.0 key

-- the terms behind a key, where it is the first
abbrev pub past_key : {Y : Type 0} → List ℕ → Terms Y → Terms Y
past_key key [] = []
past_key key (t ∷ terms) = if bytes_eq t.0 key then terms else t ∷ terms

-- the lesser of a key and another, if there is one
abbrev pub lesser : List ℕ → Option (List ℕ) → List ℕ
lesser key None = key
lesser key (Some other) = if is_lt (slice_cmp nat_cmp other key) then other else key

-- the least of the first keys
abbrev pub least_key : {Y : Type 0} → List (Terms Y) → Option (List ℕ)
least_key [] = None
least_key ([] ∷ members) = least_key members
least_key ((t ∷ terms) ∷ members) = Some (lesser t.0 (least_key members))
