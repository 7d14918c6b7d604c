-- Arrays and objects as lists of what stands in them.
use Rattle.std.proofs.Common.{[], ◌++◌, ◌<◌, ◌≤◌, ◌^◌, ◌∷◌, ◌≡◌, ◌∙◌, Bool, IsUtf8, List, ap, ap₂, append_assoc, arith, false, flat_map, length, max, refl, suc, sym, ℕ}
use Rattle.std.proofs.Math.Nat.{le-max_left, le-max_right, max-le}
use Rattle.std.specs.List.{AllByRecursion}
use Rattle.definitions.specs.NumberCodes.{sized_bytes}
use Rattle.definitions.specs.Stored.{plain_members, plain_values}
use Rattle.definitions.specs.Values.{AreMembers, AreValues, Members, Value, Values, member, members_nesting, nesting, no_members, no_values, null, value, values_nesting}
use Rattle.layouts.specs.DocumentBytes.{members_count, values_count}
use Rattle.document_values.specs.Held.{AreSized, AreSizedMembers, held_bytes, held_members, held_values}
use Rattle.layouts.specs.DocumentReading.{to_members, to_values}
use Rattle.document_values.specs.Docs.{IsGood}

-- ---- arrays

pub values_length : (vs : List Value) → values_count (to_values vs) ≡ length vs
values_length [] = refl
values_length (v ∷ vs) = ap suc (values_length vs)

pub values_held : (vs : List Value) → held_values (to_values vs) ≡ flat_map held_bytes vs
values_held [] = refl
values_held (v ∷ vs) = ap (λ ys. held_bytes v ++ ys) (values_held vs)

pub record AreGood (t : Bool) (d : ℕ) (vs : Values) : Type 0 where
  pub values : AreValues vs
  pub sized : AreSized vs
  pub shallow : values_nesting vs ≤ d
  pub kept : t ≡ false → plain_values vs ≡ vs

pub values_good : (t : Bool) (d : ℕ) (vs : List Value) → AllByRecursion (IsGood t d) vs → AreGood t d (to_values vs)
values_good t d [] good = record { values = tt; sized = tt; shallow = omega arith; kept = λ e. refl }
values_good t d (v ∷ vs) good =
    let others = values_good t d vs good.1 in
    record { values = (good.0.value, others.values); sized = (good.0.sized, others.sized); shallow = max-le good.0.shallow others.shallow; kept = λ e. ap₂ value (good.0.kept e) (others.kept e) }

-- the parts of values
abbrev first_value : Values → Value
first_value no_values = null
first_value (value v vs) = v

abbrev other_values : Values → Values
other_values no_values = no_values
other_values (value v vs) = vs

pub good_values : (t : Bool) (d : ℕ) (vs : List Value) → AreGood t d (to_values vs) → AllByRecursion (IsGood t d) vs
good_values t d [] good = tt
good_values t d (v ∷ vs) good =
    let left : nesting v ≤ max (nesting v) (values_nesting (to_values vs)) = le-max_left (nesting v) (values_nesting (to_values vs)) in
    let right : values_nesting (to_values vs) ≤ max (nesting v) (values_nesting (to_values vs)) = le-max_right (nesting v) (values_nesting (to_values vs)) in
    let all = good.shallow in (
      record { value = good.values.0; sized = good.sized.0; shallow = omega (arith, left, all); kept = λ e. ap first_value (good.kept e) },
      good_values t d vs (record { values = good.values.1; sized = good.sized.1; shallow = omega (arith, right, all); kept = λ e. ap other_values (good.kept e) }),
    )

-- the values as a list
abbrev pub values_list : Values → List Value
values_list no_values = []
values_list (value v vs) = v ∷ values_list vs

pub values_listed : (vs : Values) → to_values (values_list vs) ≡ vs
values_listed no_values = refl
values_listed (value v vs) = ap (value v) (values_listed vs)

-- ---- objects

pub members_length : (ms : List (List ℕ × Value)) → members_count (to_members ms) ≡ length ms
members_length [] = refl
members_length ((k, v) ∷ ms) = ap suc (members_length ms)

-- a member as it is held
abbrev pub held_member : List ℕ × Value → List ℕ
held_member m = sized_bytes m.0 ++ held_bytes m.1

pub members_held : (ms : List (List ℕ × Value)) → held_members (to_members ms) ≡ flat_map held_member ms
members_held [] = refl
members_held ((k, v) ∷ ms) = ap (λ ys. sized_bytes k ++ (held_bytes v ++ ys)) (members_held ms) ∙ sym (append_assoc (sized_bytes k) (held_bytes v) (flat_map held_member ms))

pub record IsGoodMember (t : Bool) (d : ℕ) (m : List ℕ × Value) : Type 0 where
  pub key : IsUtf8 m.0
  pub short : length m.0 < 2 ^ 64
  pub value : IsGood t d m.1

pub record AreGoodMembers (t : Bool) (d : ℕ) (ms : Members) : Type 0 where
  pub members : AreMembers ms
  pub sized : AreSizedMembers ms
  pub shallow : members_nesting ms ≤ d
  pub kept : t ≡ false → plain_members ms ≡ ms

pub members_good : (t : Bool) (d : ℕ) (ms : List (List ℕ × Value)) → AllByRecursion (IsGoodMember t d) ms → AreGoodMembers t d (to_members ms)
members_good t d [] good = record { members = tt; sized = tt; shallow = omega arith; kept = λ e. refl }
members_good t d ((k, v) ∷ ms) good =
    let others = members_good t d ms good.1 in
    record { members = (good.0.key, good.0.value.value, others.members); sized = (good.0.short, good.0.value.sized, others.sized); shallow = max-le good.0.value.shallow others.shallow; kept = λ e. ap₂ (member k) (good.0.value.kept e) (others.kept e) }

abbrev first_member : Members → Value
first_member no_members = null
first_member (member k v ms) = v

abbrev other_members : Members → Members
other_members no_members = no_members
other_members (member k v ms) = ms

pub good_members : (t : Bool) (d : ℕ) (ms : List (List ℕ × Value)) → AreGoodMembers t d (to_members ms) → AllByRecursion (IsGoodMember t d) ms
good_members t d [] good = tt
good_members t d ((k, v) ∷ ms) good =
    let left : nesting v ≤ max (nesting v) (members_nesting (to_members ms)) = le-max_left (nesting v) (members_nesting (to_members ms)) in
    let right : members_nesting (to_members ms) ≤ max (nesting v) (members_nesting (to_members ms)) = le-max_right (nesting v) (members_nesting (to_members ms)) in
    let all = good.shallow in (
      record { key = good.members.0; short = good.sized.0; value = record { value = good.members.1; sized = good.sized.1; shallow = omega (arith, left, all); kept = λ e. ap first_member (good.kept e) } },
      good_members t d ms (record { members = good.members.2; sized = good.sized.2; shallow = omega (arith, right, all); kept = λ e. ap other_members (good.kept e) }),
    )

abbrev pub members_list : Members → List (List ℕ × Value)
members_list no_members = []
members_list (member k v ms) = (k, v) ∷ members_list ms

pub members_listed : (ms : Members) → to_members (members_list ms) ≡ ms
members_listed no_members = refl
members_listed (member k v ms) = ap (member k v) (members_listed ms)
