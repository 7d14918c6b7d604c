-- Members that are lent, put by their keys.
use Rattle.std.proofs.Common.{[], ◌∷◌, ◌≡◌, ◌∙◌, Bor, Equal, Greater, Less, List, Ordering, nat_cmp, refl, ℕ}
use Rattle.std.specs.BTreeMap.{insert_entry}
use Rattle.std.specs.Cmp.Lexicographic.{slice_cmp}
use Rattle.std.specs.Ordering.{match_ordering}
use Rattle.definitions.specs.Printed.{printed}
use Rattle.document_values.specs.Shown.{value_of}
use Rattle.document_values.specs.WrittenJson.{lent_members}
use Rattle.document_values.specs.declared.compact_value.CompactDocValue.{CompactDocValue}
use Rattle.serde_json.specs.Data.{put}

-- texts are compared by their bytes
abbrev pub by_text : Bor (List ℕ) → Bor (List ℕ) → Ordering
by_text k l = slice_cmp nat_cmp k.now l.now

lent-match : (o : Ordering) (a b c : List (Bor (List ℕ) × CompactDocValue)) → lent_members (match_ordering o a b c) ≡ match_ordering o (lent_members a) (lent_members b) (lent_members c)
lent-match Less a b c = refl
lent-match Equal a b c = refl
lent-match Greater a b c = refl

pub lent-insert : (ms : List (Bor (List ℕ) × CompactDocValue)) (k : Bor (List ℕ)) (v : CompactDocValue) → lent_members (insert_entry by_text ms k v) ≡ put k.now (printed (value_of v)) (lent_members ms)
lent-insert [] k v = refl
lent-insert (m ∷ ms) k v = lent-match (by_text k m.0) _ _ _ ∙ rw (lent-insert ms k v)
