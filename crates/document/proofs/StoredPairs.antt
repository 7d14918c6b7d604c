-- Stored pairs: they are written as the pairs that are held, and read back.
use Rattle.std.proofs.Common.{[], ◌++◌, ◌+◌, ◌-◌, ◌<◌, ◌≤◌, ◌^◌, ◌∷◌, ◌≡◌, ◌∙◌, Bool, List, Some, ap, ap₂, append_assoc, arith, cond, false, filter, flat_map, length, map, max, refl, subst, suc, sym, true, ℕ}
use Rattle.std.specs.List.{AllByRecursion}
use Rattle.definitions.specs.Indexable.{max_nesting}
use Rattle.definitions.specs.NumberCodes.{sized_bytes, u32_bytes, vint_bytes}
use Rattle.definitions.specs.Schema.{Schema, field_has}
use Rattle.definitions.specs.Stored.{plain, plain_members, plain_values, stored_pairs}
use Rattle.definitions.specs.Values.{AreMembers, AreValues, Document, IsValue, Members, Value, Values, array, bool, bytes, date, facet, i64, ip_addr, member, members_nesting, nesting, no_members, no_values, null, object, pre_tok_str, str, u64, value, values_nesting}
use Rattle.layouts.specs.DocumentBytes.{document_bytes, members_bytes, pair_bytes, value_bytes, values_bytes}
use Rattle.document_values.specs.Docs.{IsGoodPair}
use Rattle.document_values.specs.Held.{AreSized, AreSizedMembers, IsSized}
use Rattle.layouts.specs.DocumentReading.{deepest, read_document}
use Rattle.document.proofs.BinaryForm.{count_plain, document_back, members_plain}

-- ---- a value without its tokens

mutual
  pub plain_bytes : (v : Value) → value_bytes (plain v) ≡ value_bytes v
  plain_bytes null = refl
  plain_bytes (str s) = refl
  plain_bytes (pre_tok_str s ts) = refl
  plain_bytes (u64 n) = refl
  plain_bytes (i64 z) = refl
  plain_bytes (bool b) = refl
  plain_bytes (date z) = refl
  plain_bytes (facet steps) = refl
  plain_bytes (bytes bs) = refl
  plain_bytes (ip_addr n) = refl
  plain_bytes (array vs) = ap₂ (λ n ys. 12 ∷ (vint_bytes n ++ ys)) (count_plain vs) (values_plain_bytes vs)
  plain_bytes (object ms) = ap₂ (λ n ys. 13 ∷ (vint_bytes n ++ ys)) (members_plain ms) (members_plain_bytes ms)

  values_plain_bytes : (vs : Values) → values_bytes (plain_values vs) ≡ values_bytes vs
  values_plain_bytes no_values = refl
  values_plain_bytes (value v vs) = ap₂ (λ a b. a ++ b) (plain_bytes v) (values_plain_bytes vs)

  members_plain_bytes : (ms : Members) → members_bytes (plain_members ms) ≡ members_bytes ms
  members_plain_bytes no_members = refl
  members_plain_bytes (member k v ms) = ap₂ (λ a b. sized_bytes k ++ (a ++ b)) (plain_bytes v) (members_plain_bytes ms)

mutual
  plain_value : (v : Value) → IsValue v → IsValue (plain v)
  plain_value null h = h
  plain_value (str s) h = h
  plain_value (pre_tok_str s ts) h = h.0
  plain_value (u64 n) h = h
  plain_value (i64 z) h = h
  plain_value (bool b) h = h
  plain_value (date z) h = h
  plain_value (facet steps) h = h
  plain_value (bytes bs) h = h
  plain_value (ip_addr n) h = h
  plain_value (array vs) h = plain_are_values vs h
  plain_value (object ms) h = plain_are_members ms h

  plain_are_values : (vs : Values) → AreValues vs → AreValues (plain_values vs)
  plain_are_values no_values h = h
  plain_are_values (value v vs) h = (plain_value v h.0, plain_are_values vs h.1)

  plain_are_members : (ms : Members) → AreMembers ms → AreMembers (plain_members ms)
  plain_are_members no_members h = h
  plain_are_members (member k v ms) h = (h.0, plain_value v h.1, plain_are_members ms h.2)

mutual
  plain_sized : (v : Value) → IsSized v → IsSized (plain v)
  plain_sized null h = h
  plain_sized (str s) h = h
  plain_sized (pre_tok_str s ts) h = h.0
  plain_sized (u64 n) h = h
  plain_sized (i64 z) h = h
  plain_sized (bool b) h = h
  plain_sized (date z) h = h
  plain_sized (facet steps) h = h
  plain_sized (bytes bs) h = h
  plain_sized (ip_addr n) h = h
  plain_sized (array vs) h = (subst (λ n. n < 2 ^ 64) (sym (count_plain vs)) h.0, plain_are_sized vs h.1)
  plain_sized (object ms) h = (subst (λ n. n < 2 ^ 64) (sym (members_plain ms)) h.0, plain_sized_members ms h.1)

  plain_are_sized : (vs : Values) → AreSized vs → AreSized (plain_values vs)
  plain_are_sized no_values h = h
  plain_are_sized (value v vs) h = (plain_sized v h.0, plain_are_sized vs h.1)

  plain_sized_members : (ms : Members) → AreSizedMembers ms → AreSizedMembers (plain_members ms)
  plain_sized_members no_members h = h
  plain_sized_members (member k v ms) h = (h.0, plain_sized v h.1, plain_sized_members ms h.2)

mutual
  plain_nesting : (v : Value) → nesting (plain v) ≡ nesting v
  plain_nesting null = refl
  plain_nesting (str s) = refl
  plain_nesting (pre_tok_str s ts) = refl
  plain_nesting (u64 n) = refl
  plain_nesting (i64 z) = refl
  plain_nesting (bool b) = refl
  plain_nesting (date z) = refl
  plain_nesting (facet steps) = refl
  plain_nesting (bytes bs) = refl
  plain_nesting (ip_addr n) = refl
  plain_nesting (array vs) = ap suc (plain_values_nesting vs)
  plain_nesting (object ms) = ap suc (plain_members_nesting ms)

  plain_values_nesting : (vs : Values) → values_nesting (plain_values vs) ≡ values_nesting vs
  plain_values_nesting no_values = refl
  plain_values_nesting (value v vs) = ap₂ max (plain_nesting v) (plain_values_nesting vs)

  plain_members_nesting : (ms : Members) → members_nesting (plain_members ms) ≡ members_nesting ms
  plain_members_nesting no_members = refl
  plain_members_nesting (member k v ms) = ap₂ max (plain_nesting v) (plain_members_nesting ms)

mutual
  plain_plain : (v : Value) → plain (plain v) ≡ plain v
  plain_plain null = refl
  plain_plain (str s) = refl
  plain_plain (pre_tok_str s ts) = refl
  plain_plain (u64 n) = refl
  plain_plain (i64 z) = refl
  plain_plain (bool b) = refl
  plain_plain (date z) = refl
  plain_plain (facet steps) = refl
  plain_plain (bytes bs) = refl
  plain_plain (ip_addr n) = refl
  plain_plain (array vs) = ap array (plain_plain_values vs)
  plain_plain (object ms) = ap object (plain_plain_members ms)

  plain_plain_values : (vs : Values) → plain_values (plain_values vs) ≡ plain_values vs
  plain_plain_values no_values = refl
  plain_plain_values (value v vs) = ap₂ value (plain_plain v) (plain_plain_values vs)

  plain_plain_members : (ms : Members) → plain_members (plain_members ms) ≡ plain_members ms
  plain_plain_members no_members = refl
  plain_plain_members (member k v ms) = ap₂ (member k) (plain_plain v) (plain_plain_members ms)

-- ---- pairs

good_plain : (p : ℕ × Value) → IsGoodPair true deepest p → nesting p.1 ≤ max_nesting → IsGoodPair false 128 (p.0, plain p.1)
good_plain p good shallow = record {
  field = good.field;
  value = record {
    value = plain_value p.1 good.value.value;
    sized = plain_sized p.1 good.value.sized;
    shallow = subst (λ n. n ≤ 128) (sym (plain_nesting p.1)) shallow;
    kept = λ e. plain_plain p.1;
  };
}

-- ---- pairs of stored fields, one by one

abbrev is_stored : Schema → ℕ × Value → Bool
is_stored schema p = field_has (λ e. e.stored) schema p.0

-- the stored pairs of one pair and others, by whether the one is stored
abbrev with_pair : Schema → ℕ × Value → Document → Bool → Document
with_pair schema p doc b = map (λ p. (p.0, plain p.1)) (cond b (p ∷ filter (is_stored schema) doc) (filter (is_stored schema) doc))

pub pair_stored : (schema : Schema) (p : ℕ × Value) (doc : Document) → is_stored schema p ≡ true → stored_pairs schema (p ∷ doc) ≡ (p.0, plain p.1) ∷ stored_pairs schema doc
pair_stored schema p doc e = ap (with_pair schema p doc) e

pub pair_not_stored : (schema : Schema) (p : ℕ × Value) (doc : Document) → is_stored schema p ≡ false → stored_pairs schema (p ∷ doc) ≡ stored_pairs schema doc
pair_not_stored schema p doc e = ap (with_pair schema p doc) e

pub few_stored : (schema : Schema) (doc : Document) → length (stored_pairs schema doc) ≤ length doc
few_stored schema [] = omega arith
few_stored schema (p ∷ doc) = (let others = few_stored schema doc in go (is_stored schema p) refl others)
  where
    go : (b : Bool) → is_stored schema p ≡ b → length (stored_pairs schema doc) ≤ length doc → length (stored_pairs schema (p ∷ doc)) ≤ length (p ∷ doc)
    go true e few = (let same : length (stored_pairs schema (p ∷ doc)) ≡ suc (length (stored_pairs schema doc)) = ap length (pair_stored schema p doc e) in omega (arith, few, same))
    go false e few = (let same : length (stored_pairs schema (p ∷ doc)) ≡ length (stored_pairs schema doc) = ap length (pair_not_stored schema p doc e) in omega (arith, few, same))

pub stored_good : (schema : Schema) (doc : Document) → AllByRecursion (IsGoodPair true deepest) doc → AllByRecursion (λ p. nesting p.1 ≤ max_nesting) doc → AllByRecursion (IsGoodPair false 128) (stored_pairs schema doc)
stored_good schema [] good shallow = tt
stored_good schema (p ∷ doc) good shallow = go (is_stored schema p) refl (stored_good schema doc good.1 shallow.1)
  where
    go : (b : Bool) → is_stored schema p ≡ b → AllByRecursion (IsGoodPair false 128) (stored_pairs schema doc) → AllByRecursion (IsGoodPair false 128) (stored_pairs schema (p ∷ doc))
    go true e others = subst (AllByRecursion (IsGoodPair false 128)) (sym (pair_stored schema p doc e)) (good_plain p good.0 shallow.0, others)
    go false e others = subst (AllByRecursion (IsGoodPair false 128)) (sym (pair_not_stored schema p doc e)) others

-- what is written of the stored pairs is read back
pub stored_back : (schema : Schema) (doc : Document) → AllByRecursion (IsGoodPair true deepest) doc → length (stored_pairs schema doc) < 2 ^ 64 → AllByRecursion (λ p. nesting p.1 ≤ max_nesting) doc → read_document (document_bytes (stored_pairs schema doc)) ≡ Some (stored_pairs schema doc)
stored_back schema doc good few shallow = document_back (stored_pairs schema doc) (stored_good schema doc good shallow) few

-- ---- steps of the loops over pairs

pub one_less : (schema : Schema) (p : ℕ × Value) (doc whole : Document) (stored n : ℕ) → whole ≡ p ∷ doc → is_stored schema p ≡ false → stored + length (stored_pairs schema whole) ≡ length whole + n → (1 ≤ stored) × (stored - 1 + length (stored_pairs schema doc) ≡ length doc + n)
one_less schema p doc whole stored n is out all =
    let few = few_stored schema doc in
    let same : length (stored_pairs schema whole) ≡ length (stored_pairs schema doc) = ap (λ d. length (stored_pairs schema d)) is ∙ ap length (pair_not_stored schema p doc out) in
    let long : length whole ≡ suc (length doc) = ap length is in
    (omega (arith, few, same, long, all), omega (arith, few, same, long, all))

pub pair_put : (schema : Schema) (field : ℕ) (v : Value) (doc whole : Document) (out with_field with_value all : List ℕ) → whole ≡ (field, v) ∷ doc → is_stored schema (field, v) ≡ true → with_field ≡ out ++ u32_bytes field → with_value ≡ with_field ++ value_bytes v → out ++ flat_map pair_bytes (stored_pairs schema whole) ≡ all → with_value ++ flat_map pair_bytes (stored_pairs schema doc) ≡ all
pair_put schema field v doc whole out with_field with_value all is taken number written rest =
    let others = flat_map pair_bytes (stored_pairs schema doc) in
    ap (λ ys. ys ++ others) (written ∙ ap (λ ys. ys ++ value_bytes v) number ∙ append_assoc out (u32_bytes field) (value_bytes v) ∙ ap (λ ys. out ++ (u32_bytes field ++ ys)) (sym (plain_bytes v)))
    ∙ append_assoc out (pair_bytes (field, plain v)) others
    ∙ ap (λ d. out ++ flat_map pair_bytes d) (sym (ap (stored_pairs schema) is ∙ pair_stored schema (field, v) doc taken))
    ∙ rest
