-- Lists of entries of which some were moved on.
use Rattle.std.specs.Prelude.{◌++◌, ◌≡◌, ◌≤◌, List, drop, length, map, min, slice_index, take, ℕ}
use Rattle.docsets.specs.Entries.{Entry, from}
use Rattle.docsets.specs.Members.{at_least, greatest_sum, joining}

-- all but the first lists are moved on to a document
abbrev pub moved_from : ℕ → ℕ → List (List Entry) → List (List Entry)
moved_from n t ess = take n ess ++ map (from t) (drop n ess)

-- the first lists are moved on to a document
abbrev pub moved_before : ℕ → ℕ → List (List Entry) → List (List Entry)
moved_before n t ess = map (from t) (take n ess) ++ drop n ess

-- the documents that any of the lists has, each with its scores added up
abbrev pub union : List (List Entry) → List Entry
union ess = at_least 1 joining ess

-- lists of which some were moved on, none behind a document
pub record AreLater (t : ℕ) (before after : List (List Entry)) : Type 0 where
  pub same : map (from t) after ≡ map (from t) before
  pub greatest : greatest_sum after ≤ greatest_sum before

-- what sixteen bounds say of number n and those before it; the last one is of all further numbers too
abbrev pub bound_of : List ℕ → ℕ → ℕ
bound_of bounds n = slice_index bounds (min n 15)
