-- Values as a document holds them: what was put is taken back, and what is taken was put.
use Rattle.std.proofs.Common.{◌++◌, ◌<◌, ◌≤◌, ◌^◌, ◌∷◌, ◌≡◌, ◌∙◌, Bool, List, Option, Some, ap, ap₂, append_assoc, arith, subst, suc, sym, zero, ℕ}
use Rattle.common.proofs.TakenBack.{text_back, text_put}
use Rattle.definitions.specs.Json.{◌>>=◌}
use Rattle.definitions.specs.NumberCodes.{AreBytes, sized_bytes, take_text, vint_bytes}
use Rattle.definitions.specs.Values.{Members, Value, Values, array, bool, bytes, date, facet, i64, ip_addr, nesting, no_members, no_values, null, object, pre_tok_str, str, u64}
use Rattle.layouts.specs.DocumentBytes.{members_count, values_count}
use Rattle.document_values.specs.Held.{held_bytes, held_members, held_values}
use Rattle.layouts.specs.DocumentReading.{Head, array_head, leaf, object_head, take_alone, take_held, take_head, take_inside, take_many, take_member, taken_map, to_members, to_values}
use Rattle.document_values.specs.Docs.{IsGood}
use Rattle.document.proofs.HeldHeads.{head_back, head_bytes, head_put, flat as too_deep}
use Rattle.document_values.proofs.Inside.{AreGood, AreGoodMembers, IsGoodMember, good_members, good_values, held_member, members_good, members_held, members_length, members_list, members_listed, values_good, values_held, values_length, values_list, values_listed}
use Rattle.common.proofs.Many.{IsBack, IsPut, many_back, many_put, map_some, parts_are}
use Rattle.common.proofs.WordBytes.{back_bytes as bytes_after}
use Rattle.definitions.proofs.Lists.{bind_some}

-- what is known of a value that was taken
abbrev pub IsTaken : Bool → ℕ → List ℕ → List ℕ → Value → Type 0
IsTaken t d bs rest v = IsGood t d v × (bs ≡ held_bytes v ++ rest)

deeper : (t : Bool) (d : ℕ) (v : Value) → IsGood t 0 v → IsGood t d v
deeper t d v good = (let s = good.shallow in record { value = good.value; sized = good.sized; shallow = omega (arith, s); kept = good.kept })

leaf_put : (t : Bool) (d : ℕ) (bs cs rest : List ℕ) (w v : Value) → AreBytes bs → take_head t bs ≡ Some (leaf w, cs) → take_alone (leaf w, cs) ≡ Some (v, rest) → IsTaken t d bs rest v
leaf_put t d bs cs rest w v are taken e =
    let same = parts_are (w, cs) v rest e in
    let put = head_put t bs cs (leaf w) are taken in
    subst (IsTaken t d bs rest) same.0 (deeper t d w put.0, put.1 ∙ ap (λ r. held_bytes w ++ r) same.1)

-- ---- members

-- a member that is put where its value is
member_put : (t : Bool) (d : ℕ) (item : List ℕ → Option (Value × List ℕ)) → IsPut item (IsGood t d) held_bytes → IsPut (take_member item) (IsGoodMember t d) held_member
member_put t d item put bs rest m are e =
    let k = bind_some (take_text bs) (λ k. taken_map (λ v. (k.0, v)) (item k.1)) (m, rest) e in
    let v = map_some (λ v. (k.0.0, v)) (item k.0.1) m rest k.2 in
    let text = text_put bs k.0.0 k.0.1 are k.1 in
    let of_value = put k.0.1 rest v.0 (bytes_after (sized_bytes k.0.0) k.0.1 (subst AreBytes text.2 are)) v.1 in
    subst (λ m. IsGoodMember t d m × (bs ≡ held_member m ++ rest)) v.2 (
      record { key = text.0; short = text.1; value = of_value.0 },
      text.2 ∙ ap (λ ys. sized_bytes k.0.0 ++ ys) of_value.1 ∙ sym (append_assoc (sized_bytes k.0.0) (held_bytes v.0) rest),
    )

member_back : (t : Bool) (d : ℕ) (item : List ℕ → Option (Value × List ℕ)) → IsBack item (IsGood t d) held_bytes → IsBack (take_member item) (IsGoodMember t d) held_member
member_back t d item back m rest good =
    ap (take_member item) (append_assoc (sized_bytes m.0) (held_bytes m.1) rest)
    ∙ ap (λ o. o >>= with_value) (text_back m.0 (held_bytes m.1 ++ rest) good.key good.short)
    ∙ ap (taken_map (λ v. (m.0, v))) (back m.1 rest good.value)
  where
    with_value : List ℕ × List ℕ → Option ((List ℕ × Value) × List ℕ)
    with_value k = taken_map (λ v. (k.0, v)) (item k.1)

-- ---- what is taken was put

array_put : (t : Bool) (d n : ℕ) (item : List ℕ → Option (Value × List ℕ)) → IsPut item (IsGood t d) held_bytes → (bs cs rest : List ℕ) (v : Value) → AreBytes bs → take_head t bs ≡ Some (array_head n, cs) → taken_map (λ vs. array (to_values vs)) (take_many item n cs) ≡ Some (v, rest) → IsTaken t (suc d) bs rest v
array_put t d n item put bs cs rest v are taken e =
    let head = head_put t bs cs (array_head n) are taken in
    let vs = map_some (λ vs. array (to_values vs)) (take_many item n cs) v rest e in
    let many = many_put item (IsGood t d) held_bytes put n cs rest vs.0 (bytes_after (head_bytes (array_head n)) cs (subst AreBytes head.1 are)) vs.1 in
    let good = values_good t d vs.0 many.0 in
    let count : n ≡ values_count (to_values vs.0) = sym many.1 ∙ sym (values_length vs.0) in
    let shallow = good.shallow in
    subst (IsTaken t (suc d) bs rest) vs.2 (
      record { value = good.values; sized = (subst (λ m. m < 2 ^ 64) count head.0, good.sized); shallow = omega (arith, shallow); kept = λ e. ap array (good.kept e) },
      head.1 ∙ ap₂ (λ m ys. 12 ∷ (vint_bytes m ++ ys)) count (many.2 ∙ ap (λ ys. ys ++ rest) (sym (values_held vs.0)))
          ∙ ap (λ ys. 12 ∷ ys) (sym (append_assoc (vint_bytes (values_count (to_values vs.0))) (held_values (to_values vs.0)) rest)),
    )

object_put : (t : Bool) (d n : ℕ) (item : List ℕ → Option (Value × List ℕ)) → IsPut item (IsGood t d) held_bytes → (bs cs rest : List ℕ) (v : Value) → AreBytes bs → take_head t bs ≡ Some (object_head n, cs) → taken_map (λ ms. object (to_members ms)) (take_many (take_member item) n cs) ≡ Some (v, rest) → IsTaken t (suc d) bs rest v
object_put t d n item put bs cs rest v are taken e =
    let head = head_put t bs cs (object_head n) are taken in
    let ms = map_some (λ ms. object (to_members ms)) (take_many (take_member item) n cs) v rest e in
    let many = many_put (take_member item) (IsGoodMember t d) held_member (member_put t d item put) n cs rest ms.0 (bytes_after (head_bytes (object_head n)) cs (subst AreBytes head.1 are)) ms.1 in
    let good = members_good t d ms.0 many.0 in
    let count : n ≡ members_count (to_members ms.0) = sym many.1 ∙ sym (members_length ms.0) in
    let shallow = good.shallow in
    subst (IsTaken t (suc d) bs rest) ms.2 (
      record { value = good.members; sized = (subst (λ m. m < 2 ^ 64) count head.0, good.sized); shallow = omega (arith, shallow); kept = λ e. ap object (good.kept e) },
      head.1 ∙ ap₂ (λ m ys. 13 ∷ (vint_bytes m ++ ys)) count (many.2 ∙ ap (λ ys. ys ++ rest) (sym (members_held ms.0)))
          ∙ ap (λ ys. 13 ∷ ys) (sym (append_assoc (vint_bytes (members_count (to_members ms.0))) (held_members (to_members ms.0)) rest)),
    )

alone_put : (t : Bool) (bs rest : List ℕ) (v : Value) (p : Head × List ℕ) → AreBytes bs → take_head t bs ≡ Some p → take_alone p ≡ Some (v, rest) → IsTaken t 0 bs rest v
alone_put t bs rest v (leaf w, cs) are taken e = leaf_put t 0 bs cs rest w v are taken e
alone_put t bs rest v (array_head n, cs) are taken e = cc
alone_put t bs rest v (object_head n, cs) are taken e = cc

inside_put : (t : Bool) (d : ℕ) (item : List ℕ → Option (Value × List ℕ)) → IsPut item (IsGood t d) held_bytes → (bs rest : List ℕ) (v : Value) (p : Head × List ℕ) → AreBytes bs → take_head t bs ≡ Some p → take_inside item p ≡ Some (v, rest) → IsTaken t (suc d) bs rest v
inside_put t d item put bs rest v (leaf w, cs) are taken e = leaf_put t (suc d) bs cs rest w v are taken e
inside_put t d item put bs rest v (array_head n, cs) are taken e = array_put t d n item put bs cs rest v are taken e
inside_put t d item put bs rest v (object_head n, cs) are taken e = object_put t d n item put bs cs rest v are taken e

pub held_put : (t : Bool) (d : ℕ) → IsPut (take_held t d) (IsGood t d) held_bytes
held_put t zero bs rest v are e = (let h = bind_some (take_head t bs) take_alone (v, rest) e in alone_put t bs rest v h.0 are h.1 h.2)
held_put t (suc d) bs rest v are e = (let h = bind_some (take_head t bs) (take_inside (take_held t d)) (v, rest) e in inside_put t d (take_held t d) (held_put t d) bs rest v h.0 are h.1 h.2)

-- ---- what was put is taken back

leaf_back : (t : Bool) (d : ℕ) (v : Value) (rest : List ℕ) → nesting v ≤ 0 → IsGood t d v → take_held t d (held_bytes v ++ rest) ≡ Some (v, rest)
leaf_back t zero v rest flat good = ap (λ o. o >>= take_alone) (head_back t (leaf v) rest good)
leaf_back t (suc d) v rest flat good = ap (λ o. o >>= take_inside (take_held t d)) (head_back t (leaf v) rest (record { value = good.value; sized = good.sized; shallow = flat; kept = good.kept }))

-- what stands in an array, and in an object
abbrev in_array : Value → Values
in_array (array vs) = vs
in_array _ = no_values

abbrev in_object : Value → Members
in_object (object ms) = ms
in_object _ = no_members

array_back : (t : Bool) (d : ℕ) → IsBack (take_held t d) (IsGood t d) held_bytes → (vs : List Value) (rest : List ℕ) → IsGood t (suc d) (array (to_values vs)) → take_held t (suc d) (held_bytes (array (to_values vs)) ++ rest) ≡ Some (array (to_values vs), rest)
array_back t d back vs rest good =
    let n = values_count (to_values vs) in
    let s = good.shallow in
    let inside : AreGood t d (to_values vs) = record { values = good.value; sized = good.sized.1; shallow = omega (arith, s); kept = λ e. ap in_array (good.kept e) } in
    ap (λ ys. take_held t (suc d) (12 ∷ ys)) (append_assoc (vint_bytes n) (held_values (to_values vs)) rest)
    ∙ ap (λ o. o >>= take_inside (take_held t d)) (head_back t (array_head n) (held_values (to_values vs) ++ rest) good.sized.0)
    ∙ ap₂ (λ m ys. taken_map made (take_many (take_held t d) m (ys ++ rest))) (values_length vs) (values_held vs)
    ∙ ap (taken_map made) (many_back (take_held t d) (IsGood t d) held_bytes back vs rest (good_values t d vs inside))
  where
    made : List Value → Value
    made vs = array (to_values vs)

object_back : (t : Bool) (d : ℕ) → IsBack (take_held t d) (IsGood t d) held_bytes → (ms : List (List ℕ × Value)) (rest : List ℕ) → IsGood t (suc d) (object (to_members ms)) → take_held t (suc d) (held_bytes (object (to_members ms)) ++ rest) ≡ Some (object (to_members ms), rest)
object_back t d back ms rest good =
    let n = members_count (to_members ms) in
    let s = good.shallow in
    let inside : AreGoodMembers t d (to_members ms) = record { members = good.value; sized = good.sized.1; shallow = omega (arith, s); kept = λ e. ap in_object (good.kept e) } in
    ap (λ ys. take_held t (suc d) (13 ∷ ys)) (append_assoc (vint_bytes n) (held_members (to_members ms)) rest)
    ∙ ap (λ o. o >>= take_inside (take_held t d)) (head_back t (object_head n) (held_members (to_members ms) ++ rest) good.sized.0)
    ∙ ap₂ (λ m ys. taken_map made (take_many (take_member (take_held t d)) m (ys ++ rest))) (members_length ms) (members_held ms)
    ∙ ap (taken_map made) (many_back (take_member (take_held t d)) (IsGoodMember t d) held_member (member_back t d (take_held t d) back) ms rest (good_members t d ms inside))
  where
    made : List (List ℕ × Value) → Value
    made ms = object (to_members ms)

pub held_back : (t : Bool) (d : ℕ) → IsBack (take_held t d) (IsGood t d) held_bytes
held_back t zero (array vs) rest good = absurd (too_deep _ good.shallow)
held_back t zero (object ms) rest good = absurd (too_deep _ good.shallow)
held_back t (suc d) (array vs) rest good = subst (λ ws. IsGood t (suc d) (array ws) → take_held t (suc d) (held_bytes (array ws) ++ rest) ≡ Some (array ws, rest)) (values_listed vs) (array_back t d (held_back t d) (values_list vs) rest) good
held_back t (suc d) (object ms) rest good = subst (λ ws. IsGood t (suc d) (object ws) → take_held t (suc d) (held_bytes (object ws) ++ rest) ≡ Some (object ws, rest)) (members_listed ms) (object_back t d (held_back t d) (members_list ms) rest) good
held_back t d null rest good = leaf_back t d null rest (omega arith) good
held_back t d (str s) rest good = leaf_back t d (str s) rest (omega arith) good
held_back t d (pre_tok_str s ts) rest good = leaf_back t d (pre_tok_str s ts) rest (omega arith) good
held_back t d (u64 n) rest good = leaf_back t d (u64 n) rest (omega arith) good
held_back t d (i64 z) rest good = leaf_back t d (i64 z) rest (omega arith) good
held_back t d (bool b) rest good = leaf_back t d (bool b) rest (omega arith) good
held_back t d (date z) rest good = leaf_back t d (date z) rest (omega arith) good
held_back t d (facet steps) rest good = leaf_back t d (facet steps) rest (omega arith) good
held_back t d (bytes bs) rest good = leaf_back t d (bytes bs) rest (omega arith) good
held_back t d (ip_addr n) rest good = leaf_back t d (ip_addr n) rest (omega arith) good
