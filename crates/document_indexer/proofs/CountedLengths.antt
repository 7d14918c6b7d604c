-- The lengths of a document's fields, as they are counted value by value.
use Rattle.std.proofs.Common.{[], ◌+◌, ◌<◌, ◌==◌, ◌≡◌, ◌≢◌, ◌≤◌, ◌∙◌, ◌∷◌, Bool, List, None, Option, Some, ap, arith, cond, false, filter, filter_map, length, map, refl, replicate, set, slice_get, subst, suc, sum_by, sym, true, zero, ℕ}
use Rattle.std.specs.List.{cons_option}
use Rattle.std.specs.Option.{option_map_or}
use Rattle.std.specs.Prelude.{slice_index_or}
use Rattle.std.proofs.lemmas.Bool.Decides.{nat_tests}
use Rattle.std.proofs.lemmas.List.{get_or-set_other, get_or-set_same, length-replicate, length-set}
use Rattle.std.proofs.lemmas.List.Sums.{sum_by-cons}
use Rattle.std.proofs.lemmas.Option.{slice_get_within}
use Rattle.definitions.specs.Analyzers.{Analyzer, tokens_of}
use Rattle.definitions.specs.Lengths.{kind_len, len_of}
use Rattle.definitions.specs.Schema.{Entry, Kind, Schema, bool_kind, bytes_kind, date_kind, facet_kind, field_has, i64_kind, ip_addr_kind, is_indexed, json_kind, text_kind, u64_kind}
use Rattle.definitions.specs.Values.{Document, Token, Value, values_of}
use Rattle.document_indexer.specs.FieldLengths.{AreLengths, cut, field_value_len, value_len}

-- ---- one value

-- a value and those behind it
kind_first : (kind : Kind) (analyze : Analyzer) (tokenizer : List ℕ) (v : Value) (vs : List Value) → kind_len kind analyze tokenizer (v ∷ vs) ≡ value_len kind analyze tokenizer v + kind_len kind analyze tokenizer vs
kind_first text_kind analyze tokenizer v vs = go (tokens_of analyze tokenizer v)
  where
    rest : List (List Token)
    rest = filter_map (tokens_of analyze tokenizer) vs

    go : (o : Option (List Token)) → sum_by length (cons_option o rest) ≡ option_map_or length o 0 + sum_by length rest
    go None = omega arith
    go (Some ts) = sum_by-cons length ts rest
kind_first u64_kind analyze tokenizer v vs = omega arith
kind_first i64_kind analyze tokenizer v vs = omega arith
kind_first bool_kind analyze tokenizer v vs = omega arith
kind_first date_kind analyze tokenizer v vs = omega arith
kind_first facet_kind analyze tokenizer v vs = omega arith
kind_first bytes_kind analyze tokenizer v vs = omega arith
kind_first json_kind analyze tokenizer v vs = omega arith
kind_first ip_addr_kind analyze tokenizer v vs = omega arith

kind_none : (kind : Kind) (analyze : Analyzer) (tokenizer : List ℕ) → kind_len kind analyze tokenizer [] ≡ 0
kind_none text_kind analyze tokenizer = refl
kind_none u64_kind analyze tokenizer = refl
kind_none i64_kind analyze tokenizer = refl
kind_none bool_kind analyze tokenizer = refl
kind_none date_kind analyze tokenizer = refl
kind_none facet_kind analyze tokenizer = refl
kind_none bytes_kind analyze tokenizer = refl
kind_none json_kind analyze tokenizer = refl
kind_none ip_addr_kind analyze tokenizer = refl

-- a field's length of these values
abbrev len_in : Analyzer → List Value → Option Entry → ℕ
len_in analyze vs o = option_map_or (λ (e : Entry). kind_len e.kind analyze e.tokenizer vs) o 0

abbrev added : Analyzer → Value → Option Entry → ℕ
added analyze v o = option_map_or (λ (e : Entry). value_len e.kind analyze e.tokenizer v) o 0

in_first : (analyze : Analyzer) (v : Value) (vs : List Value) (o : Option Entry) → len_in analyze (v ∷ vs) o ≡ added analyze v o + len_in analyze vs o
in_first analyze v vs None = omega arith
in_first analyze v vs (Some e) = kind_first e.kind analyze e.tokenizer v vs

in_none : (analyze : Analyzer) (o : Option Entry) → len_in analyze [] o ≡ 0
in_none analyze None = refl
in_none analyze (Some e) = kind_none e.kind analyze e.tokenizer

len_first : (schema : Schema) (analyze : Analyzer) (field : ℕ) (p : ℕ × Value) (rest : Document) → len_of schema analyze field (p ∷ rest) ≡ cond (p.0 == field) (field_value_len schema analyze p) 0 + len_of schema analyze field rest
len_first schema analyze field p rest = go (p.0 == field) refl
  where
    others : List (ℕ × Value)
    others = filter (λ (q : ℕ × Value). q.0 == field) rest

    go : (b : Bool) → (p.0 == field) ≡ b → len_in analyze (map (λ (q : ℕ × Value). q.1) (cond b (p ∷ others) others)) (slice_get schema field) ≡ cond b (field_value_len schema analyze p) 0 + len_of schema analyze field rest
    go true e = (let same : p.0 ≡ field = grind (arith, nat_tests) in in_first analyze p.1 (values_of field rest) (slice_get schema field) ∙ ap (λ i. added analyze p.1 (slice_get schema i) + len_of schema analyze field rest) (sym same))
    go false e = omega arith

-- ---- all values

-- the values so far are counted, and with those that are left they are all
pub record Counted (schema : Schema) (analyze : Analyzer) (lengths : List ℕ) (left all : Document) : Type 0 where
  pub count : length lengths ≡ length schema
  pub small : (field : ℕ) → slice_index_or lengths field 0 ≤ 4294967295
  pub each : (field : ℕ) → field_has is_indexed schema field ≡ true → cut (slice_index_or lengths field 0 + len_of schema analyze field left) ≡ cut (len_of schema analyze field all)

abbrev none : ℕ
none = 0

zeros : (n field : ℕ) → slice_index_or (replicate n none) field none ≡ none
zeros zero field = refl
zeros (suc n) zero = refl
zeros (suc n) (suc field) = zeros n field

pub none_counted : (schema : Schema) (analyze : Analyzer) (lengths : List ℕ) (all : Document) → lengths ≡ replicate (length schema) 0 → Counted schema analyze lengths all all
none_counted schema analyze lengths all is = record {
  count = ap length is ∙ length-replicate (length schema) 0;
  small = λ field. (let none = ap (λ xs. slice_index_or xs field 0) is ∙ zeros (length schema) field in omega arith);
  each = λ field indexed. (let none = ap (λ xs. slice_index_or xs field 0) is ∙ zeros (length schema) field in omega arith);
}

-- an indexed field is one of the schema's
pub field_within : (schema : Schema) (test : Entry → Bool) (field : ℕ) → field_has test schema field ≡ true → field < length schema
field_within schema test field has = go (slice_get schema field) refl has
  where
    go : (o : Option Entry) → slice_get schema field ≡ o → option_map_or test o false ≡ true → field < length schema
    go None at is = cc
    go (Some e) at is = slice_get_within schema field e at

-- one value more
pub value_counted : (schema : Schema) (analyze : Analyzer) (lengths now : List ℕ) (n : ℕ) (p : ℕ × Value) (left rest all : Document) → Counted schema analyze lengths left all → left ≡ p ∷ rest
    → (field_has is_indexed schema p.0 ≡ true → n ≡ cut (field_value_len schema analyze p))
    → now ≡ set lengths p.0 (cut (slice_index_or lengths p.0 0 + n))
    → Counted schema analyze now rest all
value_counted schema analyze lengths now n p left rest all before first len now_is = record {
  count = ap length now_is ∙ length-set lengths p.0 sum ∙ before.count;
  small = λ field. subst (λ xs. slice_index_or xs field 0 ≤ 4294967295) (sym now_is) (small field (p.0 == field) refl);
  each = λ field indexed. subst (λ xs. cut (slice_index_or xs field 0 + len_of schema analyze field rest) ≡ cut (len_of schema analyze field all)) (sym now_is) (each field indexed (p.0 == field) refl);
}
  where
    sum : ℕ
    sum = cut (slice_index_or lengths p.0 0 + n)

    other : (field : ℕ) → (p.0 == field) ≡ false → slice_index_or (set lengths p.0 sum) field 0 ≡ slice_index_or lengths field 0
    other field e = (let apart : field ≢ p.0 = grind (arith, nat_tests) in get_or-set_other lengths p.0 field sum 0 apart)

    past : (xs : List ℕ) (i : ℕ) (x : ℕ) → x ≤ 4294967295 → slice_index_or xs i 0 ≤ 4294967295 → slice_index_or (set xs i x) i 0 ≤ 4294967295
    past xs i x below old = below_all xs i
      where
        below_all : (ys : List ℕ) (j : ℕ) → slice_index_or (set ys j x) j 0 ≤ 4294967295
        below_all [] j = omega arith
        below_all (y ∷ ys) zero = below
        below_all (y ∷ ys) (suc j) = below_all ys j

    small : (field : ℕ) (b : Bool) → (p.0 == field) ≡ b → slice_index_or (set lengths p.0 sum) field 0 ≤ 4294967295
    small field true e = (let same : p.0 ≡ field = grind (arith, nat_tests) in subst (λ i. slice_index_or (set lengths p.0 sum) i 0 ≤ 4294967295) same (past lengths p.0 sum (omega arith) (before.small p.0)))
    small field false e = subst (λ k. k ≤ 4294967295) (sym (other field e)) (before.small field)

    each : (field : ℕ) → field_has is_indexed schema field ≡ true → (b : Bool) → (p.0 == field) ≡ b → cut (slice_index_or (set lengths p.0 sum) field 0 + len_of schema analyze field rest) ≡ cut (len_of schema analyze field all)
    each field indexed true e =
        let same : p.0 ≡ field = grind (arith, nat_tests) in
        let there : field_has is_indexed schema p.0 ≡ true = subst (λ i. field_has is_indexed schema i ≡ true) (sym same) indexed in
        let inside : p.0 < length lengths = (let within = field_within schema is_indexed p.0 there in let count = before.count in omega arith) in
        let here : slice_index_or (set lengths p.0 sum) field 0 ≡ cut (slice_index_or lengths field 0 + n) = subst (λ i. slice_index_or (set lengths p.0 sum) i 0 ≡ cut (slice_index_or lengths i 0 + n)) same (get_or-set_same lengths p.0 sum 0 inside) in
        let more : len_of schema analyze field left ≡ field_value_len schema analyze p + len_of schema analyze field rest = ap (len_of schema analyze field) first ∙ len_first schema analyze field p rest ∙ ap (λ b. cond b (field_value_len schema analyze p) 0 + len_of schema analyze field rest) e in
        let is = len there in
        let so_far = before.each field indexed in
        omega arith
    each field indexed false e =
        let here = other field e in
        let more : len_of schema analyze field left ≡ 0 + len_of schema analyze field rest = ap (len_of schema analyze field) first ∙ len_first schema analyze field p rest ∙ ap (λ b. cond b (field_value_len schema analyze p) 0 + len_of schema analyze field rest) e in
        let so_far = before.each field indexed in
        omega arith

-- all values
pub all_counted : (schema : Schema) (analyze : Analyzer) (lengths : List ℕ) (left all : Document) → Counted schema analyze lengths left all → left ≡ [] → AreLengths schema analyze all lengths
all_counted schema analyze lengths left all counted none = record {
  count = counted.count;
  each_field = λ field indexed. (
      let nothing : len_of schema analyze field left ≡ 0 = ap (len_of schema analyze field) none ∙ in_none analyze (slice_get schema field) in
      let small = counted.small field in
      let is = counted.each field indexed in
      omega arith);
}
