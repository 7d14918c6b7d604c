-- The stored pairs of a document that an add takes are read back from its slot.
use Rattle.std.proofs.Common.{[], ◌&&◌, ◌++◌, ◌<◌, ◌^◌, ◌∷◌, ◌≡◌, ◌≤◌, ◌∙◌, ◌||◌, Bool, Err, List, Ok, Some, ap, ap₂, arith, false, flat_map, if◌then◌else◌, length, length-append, max, nat_le, not, refl, subst, suc, sym, true, ℕ}
use Rattle.std.proofs.lemmas.Bool.Decides.{nat_tests}
use Rattle.std.specs.List.{AllByRecursion}
use Rattle.definitions.proofs.Lists.{both_true as both}
use Rattle.definitions.specs.Calls.{document_given, has_unknown_field}
use Rattle.definitions.specs.Indexable.{is_indexable, is_indexable_value, max_nesting, takes}
use Rattle.definitions.specs.Facets.{encoded}
use Rattle.definitions.specs.NumberCodes.{sized_bytes, u32_bytes, vint_bytes}
use Rattle.definitions.specs.Schema.{Schema, field_has, is_indexed}
use Rattle.definitions.specs.Stored.{plain, plain_members, plain_values, stored_pairs}
use Rattle.definitions.specs.Values.{AreMembers, AreValues, Document, IsDocument, IsValue, Members, Value, Values, array, bool, bytes, date, facet, i64, ip_addr, member, members_nesting, nesting, no_members, no_values, null, object, pre_tok_str, str, u64, value, values_nesting}
use Rattle.definitions.specs.declared.fault.Fault.TheVariants as faults
use Rattle.document.specs.Shallow.{IsShallow}
use Rattle.document_values.specs.Docs.{IsGoodPair}
use Rattle.document_values.specs.Held.{AreSized, AreSizedMembers, IsSized}
use Rattle.layouts.specs.DocumentBytes.{document_bytes, members_bytes, members_count, pair_bytes, value_bytes, values_bytes, values_count}
use Rattle.layouts.specs.DocumentReading.{read_document}
use Rattle.document.proofs.BinaryForm.{count_plain, document_back, members_plain}
use Rattle.document.proofs.Shallow.{indexable_shallow}
use Rattle.document.proofs.StoredPairs.{pair_not_stored, pair_stored, plain_bytes}
use Rattle.store.proofs.Writes.{either as neither}

-- ---- a value whose bytes are few

sized_short : (code : ℕ) (s : List ℕ) → length (code ∷ sized_bytes s) < 2 ^ 64 → length s < 2 ^ 64
sized_short code s short = (let whole = length-append (vint_bytes (length s)) s in omega (arith, short, whole))

-- a value has a byte or more
value_some : (v : Value) → 0 < length (value_bytes v)
value_some null = omega arith
value_some (str s) = omega arith
value_some (pre_tok_str s ts) = omega arith
value_some (u64 n) = omega arith
value_some (i64 z) = omega arith
value_some (bool b) = omega arith
value_some (date z) = omega arith
value_some (facet steps) = omega arith
value_some (bytes bs) = omega arith
value_some (ip_addr n) = omega arith
value_some (array vs) = omega arith
value_some (object ms) = omega arith

values_few : (vs : Values) → values_count vs ≤ length (values_bytes vs)
values_few no_values = omega arith
values_few (value v vs) = (let first = value_some v in let rest = values_few vs in let whole = length-append (value_bytes v) (values_bytes vs) in omega (arith, first, rest, whole))

members_few : (ms : Members) → members_count ms ≤ length (members_bytes ms)
members_few no_members = omega arith
members_few (member k v ms) = (
    let first = value_some v in
    let rest = members_few ms in
    let whole = length-append (sized_bytes k) (value_bytes v ++ members_bytes ms) in
    let behind = length-append (value_bytes v) (members_bytes ms) in
    omega (arith, first, rest, whole, behind))

-- what is stored of a value is a value, is sized, nests as deep as it, and is stored as it is
record IsPlain (v w : Value) : Type 0 where
  value : IsValue w
  sized : IsSized w
  nests : nesting w ≡ nesting v
  again : plain w ≡ w

record ArePlain (vs ws : Values) : Type 0 where
  values : AreValues ws
  sized : AreSized ws
  nest : values_nesting ws ≡ values_nesting vs
  again : plain_values ws ≡ ws

record ArePlainMembers (ms ns : Members) : Type 0 where
  members : AreMembers ns
  sized : AreSizedMembers ns
  nest : members_nesting ns ≡ members_nesting ms
  again : plain_members ns ≡ ns

mutual
  is_plain : (v : Value) → IsValue v → length (value_bytes v) < 2 ^ 64 → IsPlain v (plain v)
  is_plain null is short = record { value = is; sized = tt; nests = refl; again = refl }
  is_plain (str s) is short = record { value = is; sized = sized_short 0 s short; nests = refl; again = refl }
  is_plain (pre_tok_str s ts) is short = record { value = is.0; sized = sized_short 0 s short; nests = refl; again = refl }
  is_plain (u64 n) is short = record { value = is; sized = tt; nests = refl; again = refl }
  is_plain (i64 z) is short = record { value = is; sized = tt; nests = refl; again = refl }
  is_plain (bool b) is short = record { value = is; sized = tt; nests = refl; again = refl }
  is_plain (date z) is short = record { value = is; sized = tt; nests = refl; again = refl }
  is_plain (facet steps) is short = record { value = is; sized = sized_short 3 (encoded steps) short; nests = refl; again = refl }
  is_plain (bytes bs) is short = record { value = is; sized = sized_short 4 bs short; nests = refl; again = refl }
  is_plain (ip_addr n) is short = record { value = is; sized = tt; nests = refl; again = refl }
  is_plain (array vs) is short =
      let whole = length-append (vint_bytes (values_count vs)) (values_bytes vs) in
      let few = values_few vs in
      let same = count_plain vs in
      let inside = are_plain vs is (omega (arith, short, whole)) in
      record { value = inside.values; sized = (omega (arith, short, whole, few, same), inside.sized); nests = ap suc inside.nest; again = ap array inside.again }
  is_plain (object ms) is short =
      let whole = length-append (vint_bytes (members_count ms)) (members_bytes ms) in
      let few = members_few ms in
      let same = members_plain ms in
      let inside = are_plain_members ms is (omega (arith, short, whole)) in
      record { value = inside.members; sized = (omega (arith, short, whole, few, same), inside.sized); nests = ap suc inside.nest; again = ap object inside.again }

  are_plain : (vs : Values) → AreValues vs → length (values_bytes vs) < 2 ^ 64 → ArePlain vs (plain_values vs)
  are_plain no_values are short = record { values = are; sized = tt; nest = refl; again = refl }
  are_plain (value v vs) are short =
      let whole = length-append (value_bytes v) (values_bytes vs) in
      let first = is_plain v are.0 (omega (arith, short, whole)) in
      let rest = are_plain vs are.1 (omega (arith, short, whole)) in
      record { values = (first.value, rest.values); sized = (first.sized, rest.sized); nest = ap₂ max first.nests rest.nest; again = ap₂ value first.again rest.again }

  are_plain_members : (ms : Members) → AreMembers ms → length (members_bytes ms) < 2 ^ 64 → ArePlainMembers ms (plain_members ms)
  are_plain_members no_members are short = record { members = are; sized = tt; nest = refl; again = refl }
  are_plain_members (member k v ms) are short =
      let whole = length-append (sized_bytes k) (value_bytes v ++ members_bytes ms) in
      let behind = length-append (value_bytes v) (members_bytes ms) in
      let key = length-append (vint_bytes (length k)) k in
      let first = is_plain v are.1 (omega (arith, short, whole, behind)) in
      let rest = are_plain_members ms are.2 (omega (arith, short, whole, behind)) in
      record { members = (are.0, first.value, rest.members); sized = (omega (arith, short, whole, key), first.sized, rest.sized); nest = ap₂ max first.nests rest.nest; again = ap₂ (member k) first.again rest.again }

-- ---- pairs

-- no pair of no field, and each nests at most 128 deep
taken_tests : (schema : Schema) (doc : Document) → document_given schema doc ≡ Ok doc → (has_unknown_field schema doc ≡ false) × (is_indexable schema doc ≡ true)
taken_tests schema doc given = go (has_unknown_field schema doc) (is_indexable schema doc) refl refl given
  where
    go : (unknown indexable : Bool) → has_unknown_field schema doc ≡ unknown → is_indexable schema doc ≡ indexable → (if unknown then Err faults.UnknownField else (if indexable then Ok doc else Err faults.NotIndexable)) ≡ Ok doc → (has_unknown_field schema doc ≡ false) × (is_indexable schema doc ≡ true)
    go true indexable a b e = absurd (let no : ⊥ = cc in no)
    go false true a b e = (a, b)
    go false false a b e = absurd (let no : ⊥ = cc in no)

-- a document that an add takes nests no deeper than documents are read
pub taken_shallow : (schema : Schema) (doc : Document) → document_given schema doc ≡ Ok doc → IsShallow doc
taken_shallow schema doc given = indexable_shallow schema doc (taken_tests schema doc given).1

abbrev pub is_stored : Schema → ℕ → Bool
is_stored schema field = field_has (λ e. e.stored) schema field

-- the pairs can be held, and are of the schema's fields
record AreGood (schema : Schema) (pairs : Document) : Type 0 where
  good : AllByRecursion (IsGoodPair false 128) pairs
  known : has_unknown_field schema pairs ≡ false

pairs_few : (pairs : Document) → length pairs ≤ length (flat_map pair_bytes pairs)
pairs_few [] = omega arith
pairs_few (p ∷ pairs) = (
    let first = value_some p.1 in
    let whole = length-append (pair_bytes p) (flat_map pair_bytes pairs) in
    let behind = length-append (u32_bytes p.0) (value_bytes p.1) in
    let rest = pairs_few pairs in
    omega (arith, first, whole, behind, rest))

stored_kept : (schema : Schema) (doc : Document) → IsDocument doc → has_unknown_field schema doc ≡ false → is_indexable schema doc ≡ true → length (flat_map pair_bytes (stored_pairs schema doc)) < 2 ^ 64 → AreGood schema (stored_pairs schema doc)
stored_kept schema [] is known indexable short = record { good = tt; known = refl }
stored_kept schema ((field, v) ∷ doc) is known indexable short =
    let fields = neither (nat_le (length schema) field) (has_unknown_field schema doc) known in
    let tests = both (is_indexable_value schema (field, v)) (is_indexable schema doc) indexable in
    go (is_stored schema field) refl fields tests (stored_kept schema doc is.1 fields.1 tests.1)
  where
    go : (b : Bool) → is_stored schema field ≡ b → (nat_le (length schema) field ≡ false) × (has_unknown_field schema doc ≡ false) → (is_indexable_value schema (field, v) ≡ true) × (is_indexable schema doc ≡ true) → (length (flat_map pair_bytes (stored_pairs schema doc)) < 2 ^ 64 → AreGood schema (stored_pairs schema doc)) → AreGood schema (stored_pairs schema ((field, v) ∷ doc))
    go false e fields tests rest = (
        let same = pair_not_stored schema (field, v) doc e in
        subst (AreGood schema) (sym same) (rest (subst (λ (pairs : Document). length (flat_map pair_bytes pairs) < 2 ^ 64) same short)))
    go true e fields tests rest = (
        let same = pair_stored schema (field, v) doc e in
        let long : length (pair_bytes (field, plain v) ++ flat_map pair_bytes (stored_pairs schema doc)) < 2 ^ 64 = subst (λ (pairs : Document). length (flat_map pair_bytes pairs) < 2 ^ 64) same short in
        let whole = length-append (pair_bytes (field, plain v)) (flat_map pair_bytes (stored_pairs schema doc)) in
        let behind = length-append (u32_bytes field) (value_bytes (plain v)) in
        let bytes = ap length (plain_bytes v) in
        let left = rest (omega (arith, long, whole)) in
        let kept = is_plain v is.0.1 (omega (arith, long, whole, behind, bytes)) in
        let shallow = both (nat_le (nesting v) max_nesting) (not (field_has (λ e. is_indexed e && not (takes e v)) schema field)) tests.0 in
        let deep = kept.nests in
        let within : nesting v ≤ 128 = grind (arith, nat_tests) in
        let first : IsGoodPair false 128 (field, plain v) = record { field = is.0.0; value = record { value = kept.value; sized = kept.sized; shallow = omega (arith, deep, within); kept = λ x. kept.again } } in
        subst (AreGood schema) (sym same) (record { good = (first, left.good); known = ap₂ (λ a b. a || b) fields.0 left.known }))

-- what is stored of the stored pairs is these
stored_again : (schema : Schema) (doc : Document) → AllByRecursion (IsGoodPair false 128) (stored_pairs schema doc) → stored_pairs schema (stored_pairs schema doc) ≡ stored_pairs schema doc
stored_again schema [] good = refl
stored_again schema ((field, v) ∷ doc) good = go (is_stored schema field) refl (stored_again schema doc)
  where
    go : (b : Bool) → is_stored schema field ≡ b → (AllByRecursion (IsGoodPair false 128) (stored_pairs schema doc) → stored_pairs schema (stored_pairs schema doc) ≡ stored_pairs schema doc) → stored_pairs schema (stored_pairs schema ((field, v) ∷ doc)) ≡ stored_pairs schema ((field, v) ∷ doc)
    go false e rest = (
        let same = pair_not_stored schema (field, v) doc e in
        ap (stored_pairs schema) same ∙ rest (subst (AllByRecursion (IsGoodPair false 128)) same good) ∙ sym same)
    go true e rest = (
        let same = pair_stored schema (field, v) doc e in
        let here : AllByRecursion (IsGoodPair false 128) ((field, plain v) ∷ stored_pairs schema doc) = subst (AllByRecursion (IsGoodPair false 128)) same good in
        ap (stored_pairs schema) same
        ∙ pair_stored schema (field, plain v) (stored_pairs schema doc) e
        ∙ ap₂ (λ w (pairs : Document). (field, w) ∷ pairs) (here.0.value.kept refl) (rest here.1)
        ∙ sym same)

-- the stored pairs are read from their bytes, are of the schema's fields, and stored as they are
pub record IsBack (schema : Schema) (pairs : Document) : Type 0 where
  pub reads : read_document (document_bytes pairs) ≡ Some pairs
  pub known : has_unknown_field schema pairs ≡ false
  pub again : stored_pairs schema pairs ≡ pairs

pub stored_back : (schema : Schema) (doc : Document) → IsDocument doc → document_given schema doc ≡ Ok doc → length (document_bytes (stored_pairs schema doc)) < 2 ^ 64 → IsBack schema (stored_pairs schema doc)
stored_back schema doc is given short =
    let pairs = stored_pairs schema doc in
    let whole = length-append (vint_bytes (length pairs)) (flat_map pair_bytes pairs) in
    let few = pairs_few pairs in
    let tests = taken_tests schema doc given in
    let back = stored_kept schema doc is tests.0 tests.1 (omega (arith, short, whole)) in
    record { reads = document_back pairs back.good (omega (arith, short, whole, few)); known = back.known; again = stored_again schema doc back.good }
