-- What an index has: groups of committed documents, and calls that wait for a commit.
use Rattle.std.specs.Prelude.{[], ◌++◌, ◌+◌, ◌-◌, ◌/◌, ◌||◌, ◌∷◌, Bool, List, drop, filter, flat_map, length, map, nat_le, nat_lt, not, suc, take, zero, ℕ}
use Rattle.std.specs.List.{list_any}
use Rattle.definitions.specs.Analyzers.{Analyzer}
use Rattle.definitions.specs.Recorded.{holds}
use Rattle.definitions.specs.Schema.{Schema}
use Rattle.definitions.specs.Values.{Document}

-- a call that waits for a commit
pub data Pending : Type 0 where
  added : Document → Pending
  deleted : List ℕ → Pending

-- the committed documents in groups, and the calls that wait
pub record State : Type 0 where
  pub groups : List (List Document)
  pub pending : List Pending

-- before any call
abbrev pub nothing_yet : State
nothing_yet = record { groups = []; pending = [] }

-- the groups one after the other: what searches see
abbrev pub committed : State → List Document
committed s = flat_map (λ group. group) s.groups

-- how many groups there are
abbrev pub num_segments : State → ℕ
num_segments s = length s.groups

-- how many committed documents there are
abbrev pub num_docs : State → ℕ
num_docs s = length (committed s)

-- ---- add and delete: the call waits

-- the document waits behind the calls before it
abbrev pub after_add : Document → State → State
after_add doc s = record s { pending = s.pending ++ (added doc ∷ []) }

-- the term waits behind the calls before it
abbrev pub after_delete : List ℕ → State → State
after_delete t s = record s { pending = s.pending ++ (deleted t ∷ []) }

-- ---- commit

-- the terms that pending calls delete
abbrev pub deleted_terms : List Pending → List (List ℕ)
deleted_terms [] = []
deleted_terms (added doc ∷ calls) = deleted_terms calls
deleted_terms (deleted t ∷ calls) = t ∷ deleted_terms calls

-- whether the document has none of the terms
abbrev pub is_left : Schema → Analyzer → List (List ℕ) → Document → Bool
is_left schema analyze ts doc = not (list_any (λ t. holds schema analyze t doc) ts)

-- the pending documents in order, each with whether the deletions after it leave it
abbrev pub marked : Schema → Analyzer → List Pending → List (Document × Bool)
marked schema analyze [] = []
marked schema analyze (added doc ∷ calls) = (doc, is_left schema analyze (deleted_terms calls) doc) ∷ marked schema analyze calls
marked schema analyze (deleted t ∷ calls) = marked schema analyze calls

-- a list in a number of pieces of n elements, the last maybe smaller
abbrev pub groups_of {ℓ} : {X : Type ℓ} → ℕ → ℕ → List X → List (List X)
groups_of zero n xs = []
groups_of (suc more) n xs = take n xs ∷ groups_of more n (drop n xs)

-- a list in as many pieces of n elements as it begins
abbrev pub pieces {ℓ} : {X : Type ℓ} → ℕ → List X → List (List X)
pieces n xs = groups_of ((length xs + n - 1) / n) n xs

-- the documents that are alive
abbrev pub living : List (Document × Bool) → List Document
living rows = map (λ row. row.0) (filter (λ row. row.1) rows)

-- The pending documents become new last groups. Each pending term removes the documents that were added
-- before it and have it. Empty groups stay.
abbrev pub after_commit : Schema → Analyzer → ℕ → State → State
after_commit schema analyze docs_per_segment s = record { groups = map (filter (is_left schema analyze (deleted_terms s.pending))) s.groups ++ map living (pieces docs_per_segment (marked schema analyze s.pending)); pending = [] }

-- ---- merge

-- one group, or none where it would be empty
abbrev pub as_group : List Document → List (List Document)
as_group [] = []
as_group (doc ∷ docs) = (doc ∷ docs) ∷ []

-- one group in place of those from one place to another
abbrev pub merged : ℕ → ℕ → List (List Document) → List (List Document)
merged from to groups = take from groups ++ (as_group (flat_map (λ group. group) (take (to - from) (drop from groups))) ++ drop to groups)

-- the state after a merge of groups; the calls that wait stay
abbrev pub after_merge : ℕ → ℕ → State → State
after_merge from to s = record s { groups = merged from to s.groups }

-- whether the range names no group, or more than there are
abbrev pub is_bad_range : ℕ → ℕ → State → Bool
is_bad_range from to s = nat_le to from || nat_lt (num_segments s) to
