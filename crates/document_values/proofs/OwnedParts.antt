-- Owned values, put part by part.
use Rattle.std.proofs.Common.{Global, [], ◌++◌, ◌<◌, ◌^◌, ◌∷◌, ◌≡◌, ◌∙◌, List, String, Vec, ap, append_assoc, drop, length, map, rules, string_bytes, subst, sym, ℕ}
use Rattle.std.proofs.lemmas.List.{length-map}
use Rattle.std.proofs.lemmas.Str.{IsUtf8-string_bytes}
use Rattle.definitions.specs.NumberCodes.{sized_bytes, vint_bytes}
use Rattle.definitions.specs.Values.{AreMembers, AreValues, array, object}
use Rattle.layouts.specs.DocumentBytes.{members_count, values_count}
use Rattle.document_values.specs.Held.{AreSized, AreSizedMembers, IsHeldValue, held_bytes, held_members, held_values}
use Rattle.document_values.specs.Owned.{owned_members, owned_value, owned_values}
use Rattle.layouts.specs.DocumentReading.{to_members, to_values}
use Rattle.document_values.specs.declared.owned_value.OwnedValue.{Object, OwnedValue, the_lemmas}
use Rattle.document_values.proofs.Inside.{members_length, values_length}
use Rattle.document_values.proofs.WrittenParts.{parts_put}

abbrev pub Member : Type 0
Member = String Global × OwnedValue

pub object_seen : (ms : Vec Member Global) → owned_value (Object ms) ≡ object (to_members (owned_members ms.items))
object_seen ms = search (rules, the_lemmas)

-- ---- values

pub count_values : (vs : List OwnedValue) → length vs ≡ values_count (to_values (owned_values vs))
count_values vs = sym (values_length (owned_values vs) ∙ length-map vs owned_value)

pub values_put : (out pushed counted last : List ℕ) (n i : ℕ) (vs : List OwnedValue) → pushed ≡ out ++ (12 ∷ []) → counted ≡ pushed ++ vint_bytes n → n ≡ length vs → last ++ held_values (to_values (owned_values (drop i vs))) ≡ counted ++ held_values (to_values (owned_values vs)) → drop i vs ≡ [] → last ≡ out ++ held_bytes (array (to_values (owned_values vs)))
values_put out pushed counted last n i vs first count is all none = parts_put out pushed counted last (held_values (to_values (owned_values (drop i vs)))) (held_values (to_values (owned_values vs))) 12 n _ first count (is ∙ count_values vs) all (ap (λ r. held_values (to_values (owned_values r))) none)

pub values_held : (rest vs : List OwnedValue) → rest ≡ [] → length vs < 2 ^ 64 → (AreValues (to_values (owned_values rest)) → AreValues (to_values (owned_values vs))) → (AreSized (to_values (owned_values rest)) → AreSized (to_values (owned_values vs))) → IsHeldValue (array (to_values (owned_values vs)))
values_held rest vs none few are sized = (
  are (subst (λ r. AreValues (to_values (owned_values r))) (sym none) tt),
  (subst (λ n. n < 2 ^ 64) (count_values vs) few, sized (subst (λ r. AreSized (to_values (owned_values r))) (sym none) tt)),
)

-- ---- members

pub count_members : (ms : List Member) → length ms ≡ members_count (to_members (owned_members ms))
count_members ms = sym (members_length (owned_members ms) ∙ length-map (map (λ (m : Member). (m.0, owned_value m.1)) ms) _ ∙ length-map ms _)

pub members_put : (out pushed counted last : List ℕ) (n i : ℕ) (ms : List Member) → pushed ≡ out ++ (13 ∷ []) → counted ≡ pushed ++ vint_bytes n → n ≡ length ms → last ++ held_members (to_members (owned_members (drop i ms))) ≡ counted ++ held_members (to_members (owned_members ms)) → drop i ms ≡ [] → last ≡ out ++ held_bytes (object (to_members (owned_members ms)))
members_put out pushed counted last n i ms first count is all none = parts_put out pushed counted last (held_members (to_members (owned_members (drop i ms)))) (held_members (to_members (owned_members ms))) 13 n _ first count (is ∙ count_members ms) all (ap (λ r. held_members (to_members (owned_members r))) none)

pub members_held : (rest ms : List Member) → rest ≡ [] → length ms < 2 ^ 64 → (AreMembers (to_members (owned_members rest)) → AreMembers (to_members (owned_members ms))) → (AreSizedMembers (to_members (owned_members rest)) → AreSizedMembers (to_members (owned_members ms))) → IsHeldValue (object (to_members (owned_members ms)))
members_held rest ms none few are sized = (
  are (subst (λ r. AreMembers (to_members (owned_members r))) (sym none) tt),
  (subst (λ n. n < 2 ^ 64) (count_members ms) few, sized (subst (λ r. AreSizedMembers (to_members (owned_members r))) (sym none) tt)),
)

-- one member more
pub member_put : (m : Member) (rest whole : List Member) (out with_key with_value start : List ℕ) → whole ≡ m ∷ rest → with_key ≡ out ++ sized_bytes (string_bytes m.0) → with_value ≡ with_key ++ held_bytes (owned_value m.1) → out ++ held_members (to_members (owned_members whole)) ≡ start → with_value ++ held_members (to_members (owned_members rest)) ≡ start
member_put m rest whole out with_key with_value start is key written all =
    let others = held_members (to_members (owned_members rest)) in
    ap (λ ys. ys ++ others) (written ∙ ap (λ ys. ys ++ held_bytes (owned_value m.1)) key ∙ append_assoc out (sized_bytes (string_bytes m.0)) (held_bytes (owned_value m.1)))
    ∙ append_assoc out (sized_bytes (string_bytes m.0) ++ held_bytes (owned_value m.1)) others
    ∙ ap (λ ys. out ++ ys) (append_assoc (sized_bytes (string_bytes m.0)) (held_bytes (owned_value m.1)) others)
    ∙ ap (λ ms. out ++ held_members (to_members (owned_members ms))) (sym is)
    ∙ all

pub member_is : (m : Member) (rest whole : List Member) → whole ≡ m ∷ rest → IsHeldValue (owned_value m.1) → AreMembers (to_members (owned_members rest)) → AreMembers (to_members (owned_members whole))
member_is m rest whole is held are = subst (λ ms. AreMembers (to_members (owned_members ms))) (sym is) (IsUtf8-string_bytes m.0, held.0, are)

pub member_sized : (m : Member) (rest whole : List Member) → whole ≡ m ∷ rest → length (string_bytes m.0) < 2 ^ 64 → IsHeldValue (owned_value m.1) → AreSizedMembers (to_members (owned_members rest)) → AreSizedMembers (to_members (owned_members whole))
member_sized m rest whole is short held sized = subst (λ ms. AreSizedMembers (to_members (owned_members ms))) (sym is) (short, held.1, sized)
