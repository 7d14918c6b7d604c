-- Deletions that wait for a commit.
use Rattle.std.specs.Prelude.{[], ◌&&◌, ◌*◌, ◌+◌, ◌<◌, ◌==◌, ◌∷◌, ◌||◌, Bool, List, bytes_eq, false, nat_le, nat_lt, ℕ}
use Rattle.segment_definitions.specs.Waiting.{Numbered}
use Rattle.index_state.specs.declared.deletions.Deletion.{Deletion}

-- its term
abbrev pub term_of : Deletion → List ℕ
term_of d = d.term

-- how many documents were added before it, where full segments have n documents
abbrev pub numbered : ℕ → Deletion → Numbered
numbered n d = (d.term, n * d.segments + d.docs)

-- of the segment that isn't full it covers fewer documents than a full one has
abbrev pub IsSmall : ℕ → Deletion → Type 0
IsSmall n d = d.docs < n

-- whether a deletion is of the term of another one, and no earlier
abbrev pub repeats : Deletion → Deletion → Bool
repeats d next = bytes_eq d.term next.term && (nat_lt d.segments next.segments || ((d.segments == next.segments) && nat_le d.docs next.docs))

-- whether the first deletion is repeated by the next
abbrev pub is_repeated : List Deletion → Bool
is_repeated [] = false
is_repeated (d ∷ []) = false
is_repeated (d ∷ next ∷ ds) = repeats d next
