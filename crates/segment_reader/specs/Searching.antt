-- The order of terms by their value bytes, and of fields by their numbers.
use Rattle.std.specs.Prelude.{◌&&◌, ◌<◌, ◌≤◌, Bool, List, None, Option, Some, filter, length, not, slice_index, true, ℕ}
use Rattle.std.specs.Cmp.Lexicographic.{slice_cmp}
use Rattle.std.specs.Ordering.{is_lt, nat_cmp}

-- whether a term stands before a key
abbrev pub is_below : List ℕ → List ℕ → Bool
is_below key t = is_lt (slice_cmp nat_cmp t key)

-- all numbers before an index are below one, and none from there on
abbrev pub IsFirstFrom : ℕ → List ℕ → ℕ → Type 0
IsFirstFrom field numbers n = ((k : ℕ) → k < n → slice_index numbers k < field) × ((k : ℕ) → n ≤ k → k < length numbers → field ≤ slice_index numbers k)

-- whether a term stands before an end, if there is one
abbrev pub is_before : Option (List ℕ) → List ℕ → Bool
is_before None t = true
is_before (Some end) t = is_below end t

-- the terms from a start on that stand before an end
abbrev pub between : {Y : Type 0} → List ℕ → Option (List ℕ) → List (List ℕ × Y) → List (List ℕ × Y)
between start end terms = filter (λ t. not (is_below start t.0) && is_before end t.0) terms
