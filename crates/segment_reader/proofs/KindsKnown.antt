-- The kinds of indexed fields, as the schema has them.
use Rattle.std.proofs.Common.{[], Bool, List, Some, ap, ap₂, arith, cond, drop, false, filter, length, map, refl, suc, sym, true, ◌+◌, ◌<◌, ◌≡◌, ◌≤◌, ◌∙◌, ◌∷◌, ◌^◌, ℕ}
use Rattle.std.specs.List.{AllByRecursion, enumerate_from}
use Rattle.std.specs.Option.{option_map_or}
use Rattle.std.specs.Prelude.{slice_get}
use Rattle.definitions.proofs.Lists.{first_or}
use Rattle.definitions.specs.Schema.{Entry, IndexRecordOption, Kind, Schema, basic, is_indexed, max_fields}
use Rattle.definitions.specs.Terms.{field_of, term_bytes}
use Rattle.layouts.specs.Deltas.{IsAscendingFrom}
use Rattle.layouts.specs.InvertedIndexes.{indexed_fields, option_of_term, term_of_key}
use Rattle.options.specs.RecordOption.{record_option_of}
use Rattle.terms.proofs.TermParts.{field_of-term, text_terms}
use Rattle.terms.specs.Kinds.{kind_of}
use Rattle.terms.specs.TextKeys.{is_text_key}
use Rattle.segment_definitions.specs.Keys.{is_key, is_key_of}
use Rattle.segment_reader.specs.FieldKinds.{kinds_of, option_in, shown}
use Rattle.segment_reader.specs.declared.field_kind.FieldKind.{FieldKind}
use Rattle.segment_reader.proofs.FieldsKept.{kind_shown}

-- ---- the indexed fields of a schema

-- a field by its number, and its entry
abbrev IsField : Schema → ℕ × Entry → Type 0
IsField schema p = (slice_get schema p.0 ≡ Some p.1) × (p.0 < length schema)

-- the indexed ones among fields, the first of which has a number
abbrev pub indexed_from : ℕ → List Entry → List (ℕ × Entry)
indexed_from n es = filter (λ (p : ℕ × Entry). is_indexed p.1) (enumerate_from n es)

fields_from : (schema : Schema) (n : ℕ) (es : List Entry) → ((k : ℕ) → slice_get schema (n + k) ≡ slice_get es k) → n + length es ≡ length schema → AllByRecursion (IsField schema) (indexed_from n es)
fields_from schema n [] here long = tt
fields_from schema n (e ∷ es) here long = go (is_indexed e) first (fields_from schema (n + 1) es next (omega (arith, long)))
  where
    next : (k : ℕ) → slice_get schema (n + 1 + k) ≡ slice_get es k
    next k = (let same_index : n + 1 + k ≡ n + suc k = omega arith in ap (slice_get schema) same_index ∙ here (suc k))

    first : IsField schema (n, e)
    first = (let same_index : n ≡ n + 0 = omega arith in ap (slice_get schema) same_index ∙ here 0, omega (arith, long))

    go : (b : Bool) → IsField schema (n, e) → AllByRecursion (IsField schema) (indexed_from (n + 1) es) → AllByRecursion (IsField schema) (cond b ((n, e) ∷ indexed_from (n + 1) es) (indexed_from (n + 1) es))
    go true first later = (first, later)
    go false first later = later

fields_known : (schema : Schema) → AllByRecursion (IsField schema) (indexed_from 0 schema)
fields_known schema = fields_from schema 0 schema (λ k. (let same_index : 0 + k ≡ k = omega arith in ap (slice_get schema) same_index)) (omega arith)

numbers_small : (schema : Schema) (ps : List (ℕ × Entry)) → length schema ≤ max_fields → AllByRecursion (IsField schema) ps → AllByRecursion (λ n. n < 2 ^ 32) (map (λ (p : ℕ × Entry). p.0) ps)
numbers_small schema [] few all = tt
numbers_small schema (p ∷ ps) few all = (let within = all.0.1 in omega (arith, within, few), numbers_small schema ps few all.1)

-- each number of an indexed field is below 2^32
pub fields_small : (schema : Schema) → length schema ≤ max_fields → AllByRecursion (λ n. n < 2 ^ 32) (indexed_fields schema)
fields_small schema few = numbers_small schema (indexed_from 0 schema) few (fields_known schema)

ascending_from : (n m : ℕ) (es : List Entry) → m ≤ n → IsAscendingFrom m (map (λ (p : ℕ × Entry). p.0) (indexed_from n es))
ascending_from n m [] order = tt
ascending_from n m (e ∷ es) order = go (is_indexed e) (ascending_from (n + 1) (n + 1) es (omega arith)) (ascending_from (n + 1) m es (omega (arith, order)))
  where
    go : (b : Bool) → IsAscendingFrom (n + 1) (map (λ (p : ℕ × Entry). p.0) (indexed_from (n + 1) es)) → IsAscendingFrom m (map (λ (p : ℕ × Entry). p.0) (indexed_from (n + 1) es)) → IsAscendingFrom m (map (λ (p : ℕ × Entry). p.0) (cond b ((n, e) ∷ indexed_from (n + 1) es) (indexed_from (n + 1) es)))
    go true one none = (order, one)
    go false one none = none

-- the numbers of the indexed fields ascend
pub fields_ascend : (schema : Schema) → IsAscendingFrom 0 (indexed_fields schema)
fields_ascend schema = ascending_from 0 0 schema (omega arith)

-- ---- what is kept of them

-- what the schema has of a field
pub record IsKind (schema : Schema) (k : FieldKind) : Type 0 where
  pub entry : Entry
  pub there : slice_get schema k.field ≡ Some entry
  pub small : k.field < 2 ^ 32
  pub kind_is : kind_of k.value_type ≡ entry.kind
  pub option_is : record_option_of k.record_option ≡ entry.record_option

kinds_from : (schema : Schema) (ks : List FieldKind) (ps : List (ℕ × Entry)) → length schema ≤ max_fields → map shown ks ≡ map kind_shown ps → AllByRecursion (IsField schema) ps → AllByRecursion (IsKind schema) ks
kinds_from schema [] ps few same all = tt
kinds_from schema (k ∷ ks) [] few same all = (let long = ap length same in absurd (omega (arith, long)))
kinds_from schema (k ∷ ks) (p ∷ ps) few same all =
    let one : shown k ≡ kind_shown p = ap (first_or (shown k)) same in
    let number : k.field ≡ p.0 = ap (λ (t : ℕ × Kind × IndexRecordOption). t.0) one in
    let within = all.0.1 in (
      record {
        entry = p.1;
        there = ap (slice_get schema) number ∙ all.0.0;
        small = omega (arith, within, few, number);
        kind_is = ap (λ (t : ℕ × Kind × IndexRecordOption). t.1) one;
        option_is = ap (λ (t : ℕ × Kind × IndexRecordOption). t.2) one;
      },
      kinds_from schema ks ps few (ap (drop 1) same) all.1,
    )

pub kinds_known : (schema : Schema) (ks : List FieldKind) → length schema ≤ max_fields → map shown ks ≡ kinds_of schema → AllByRecursion (IsKind schema) ks
kinds_known schema ks few same = kinds_from schema ks (indexed_from 0 schema) few same (fields_known schema)

numbers_shown : (ks : List FieldKind) → map (λ (t : ℕ × Kind × IndexRecordOption). t.0) (map shown ks) ≡ map (λ (k : FieldKind). k.field) ks
numbers_shown [] = refl
numbers_shown (k ∷ ks) = ap (λ ns. k.field ∷ ns) (numbers_shown ks)

numbers_told : (ps : List (ℕ × Entry)) → map (λ (t : ℕ × Kind × IndexRecordOption). t.0) (map kind_shown ps) ≡ map (λ (p : ℕ × Entry). p.0) ps
numbers_told [] = refl
numbers_told (p ∷ ps) = ap (λ ns. p.0 ∷ ns) (numbers_told ps)

-- their numbers are those of the indexed fields
pub kind_numbers : (schema : Schema) (ks : List FieldKind) → map shown ks ≡ kinds_of schema → map (λ (k : FieldKind). k.field) ks ≡ indexed_fields schema
kind_numbers schema ks same = sym (numbers_shown ks) ∙ ap (map (λ (t : ℕ × Kind × IndexRecordOption). t.0)) same ∙ numbers_told (indexed_from 0 schema)

-- ---- what is recorded

-- what is recorded of a term is what its field's kind says
pub same_option : (schema : Schema) (k : FieldKind) (key : List ℕ) → IsKind schema k → option_in k key ≡ option_of_term schema (term_of_key schema k.field key)
same_option schema k key known =
    let e = known.entry in
    let f = k.field in
    let t = term_bytes f e.kind key in
    let entry : slice_get schema (field_of t) ≡ Some e = ap (slice_get schema) (field_of-term f e.kind key known.small) ∙ known.there in
    let own : option_of_term schema t ≡ cond (is_text_key e.kind key) e.record_option basic =
    ap (λ b. cond b (option_map_or (λ (x : Entry). x.record_option) (slice_get schema (field_of t)) basic) basic) (text_terms f e.kind key)
    ∙ ap (λ o. cond (is_text_key e.kind key) (option_map_or (λ (x : Entry). x.record_option) o basic) basic) entry in
    let term : term_of_key schema f key ≡ t = ap (λ o. option_map_or (λ (x : Entry). term_bytes f x.kind key) o []) known.there in
    ap₂ (λ kind option. cond (is_text_key kind key) option basic) known.kind_is known.option_is ∙ sym own ∙ ap (option_of_term schema) (sym term)

-- ---- keys

-- the bytes of a value of the kind are those of a value of the field
pub same_key : (schema : Schema) (k : FieldKind) (key : List ℕ) → IsKind schema k → is_key (kind_of k.value_type) key ≡ is_key_of schema k.field key
same_key schema k key known = ap (λ kind. is_key kind key) known.kind_is ∙ sym (ap (λ o. option_map_or (λ (e : Entry). is_key e.kind key) o false) known.there)
