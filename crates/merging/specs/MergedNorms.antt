-- The lengths of a merge: those of the living documents, member by member.
use Rattle.std.specs.Prelude.{[], ◌++◌, ◌∷◌, ◌≡◌, List, length, map, ℕ}
use Rattle.std.specs.List.{AllByRecursion, items_where_true}
use Rattle.layouts.specs.InvertedIndexes.{field_ids}
use Rattle.merging.specs.declared.member_norms.MemberNorms.{MemberNorms}

-- a member has as many ids of each field as there are flags
abbrev pub IsFlagged : MemberNorms → Type 0
IsFlagged m = AllByRecursion (λ (p : ℕ × List ℕ). length p.1 ≡ length m.alive.now) m.norms

-- the length ids of a field's living documents
abbrev pub merged_ids : ℕ → List MemberNorms → List ℕ
merged_ids field [] = []
merged_ids field (m ∷ ms) = items_where_true m.alive.now (field_ids m.norms field) ++ merged_ids field ms

-- those of each of these fields
abbrev pub merged_norms : List ℕ → List MemberNorms → List (ℕ × List ℕ)
merged_norms fields ms = map (λ field. (field, merged_ids field ms)) fields
