-- Walks over the terms of members, as they stand.
use Rattle.std.specs.Prelude.{[], ◌<◌, ◌∷◌, ◌≡◌, Bool, IfSome, IsSome, List, None, Option, Some, bytes_eq, false, length, map, not, true, ℕ}
use Rattle.std.specs.Cmp.Lexicographic.{slice_cmp}
use Rattle.std.specs.List.{AllByRecursion, list_any, slice_index_or}
use Rattle.std.specs.Ordering.{is_lt, nat_cmp}
use Rattle.segment_reader.specs.Dictionaries.{Placed, Walked}
use Rattle.segment_reader.specs.Readers.{info_in}
use Rattle.segment_reader.specs.declared.term_info.TermInfo.{TermInfo}
use Rattle.layouts.specs.TermSections.{TermsAscend}
use Rattle.merging.specs.KeyLists.{first_key, keys_of, least_key, merged_keys}

-- the term on which a walk stands, and those that it has before it
abbrev pub left_of : Walked → List Placed
left_of w = elim w.here [ None ↦ [] | Some t ↦ t ∷ w.rest ]

-- where the postings of the first term stand
abbrev pub first_info : List Placed → Option TermInfo
first_info [] = None
first_info (t ∷ terms) = Some t.1

-- terms of members: all of each, and the keys that are left, in ascending order and each once
pub record Merger : Type 0 where
  pub members : List (List Placed)
  pub keys : List (List ℕ)

-- the first key of the member of a number, if there is one
abbrev pub key_at : List (List Placed) → Option ℕ → Option (List ℕ)
key_at members None = None
key_at members (Some number) = first_key (slice_index_or members number [])

-- the number of a member whose first key is the least of all; none where no term is left
pub record IsLeast (members : List (List Placed)) (least : Option ℕ) : Type 0 where
  pub key_is : key_at members least ≡ least_key members
  pub has_key : IfSome least (λ number. (number < length members) × IsSome (first_key (slice_index_or members number [])))

-- What is left of members, each of which ascends: of a key that is left, it tells what all of their terms tell.
pub record AreLeft (members left : List (List Placed)) : Type 0 where
  pub long : length left ≡ length members
  pub ascend : AllByRecursion (λ terms. TermsAscend (keys_of terms)) left
  pub same : (key : List ℕ) → list_any (bytes_eq key) (merged_keys left) ≡ true → map (info_in key) left ≡ map (info_in key) members

-- whether a first key, if there is one, doesn't stand behind another
abbrev pub is_lead : Option (List ℕ) → Option (List ℕ) → Bool
is_lead None other = false
is_lead (Some key) None = true
is_lead (Some key) (Some other) = not (is_lt (slice_cmp nat_cmp other key))
