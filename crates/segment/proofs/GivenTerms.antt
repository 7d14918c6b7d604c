-- The postings of a member's terms by their value bytes, where these are the given ones.
use Rattle.std.proofs.Common.{[], Bool, List, None, Option, Some, ap, ap₂, arith, bytes_eq, cond, false, filter, find, length, map, nat_eq, refl, slice_get, subst, suc, sym, true, true≢false, zero, zero-add, ◌+◌, ◌<◌, ◌==◌, ◌^◌, ◌||◌, ◌≡◌, ◌≢◌, ◌≤◌, ◌∙◌, ◌∷◌, ℕ}
use Rattle.std.proofs.lemmas.Bool.Decides.{nat_tests}
use Rattle.std.proofs.lemmas.List.Folds.{list_any-append}
use Rattle.std.proofs.lemmas.Option.{slice_get_within}
use Rattle.std.proofs.lemmas.Slice.Eq.{bytes_eq-Decides}
use Rattle.std.specs.List.{AllByRecursion, enumerate_from, list_any}
use Rattle.std.specs.Option.{option_map_or}
use Rattle.definitions.proofs.Lists.{bytes_swap as turned, or_true}
use Rattle.definitions.specs.Postings.{Posting}
use Rattle.definitions.specs.Schema.{Entry, Schema, is_indexed, max_fields}
use Rattle.definitions.specs.Terms.{term_bytes}
use Rattle.segment_reader.proofs.KindsKnown.{fields_ascend}
use Rattle.segment_reader.proofs.TermsHeld.{found_all, term_there as whole_term}
use Rattle.segment_reader.specs.FieldDictionaries.{terms_in}
use Rattle.segment_reader.specs.Readers.{postings_in, term_in}
use Rattle.layouts.specs.Deltas.{IsAscendingFrom}
use Rattle.layouts.specs.InvertedIndexes.{AreGiven, HasPostingsOf, IndexedField, IndexedTerm, all_terms, indexed_fields, term_of_key}
use Rattle.postings_writer.proofs.WrittenSections.{entries_at}
use Rattle.postings_writer.specs.Writers.{IsIndexedTerm}
use Rattle.segment_reader.proofs.GivenPostings.{none_given}
use Rattle.terms.proofs.TermParts.{other_fields, same_keys}

-- ---- the indexed fields of a schema

-- an indexed field by its number
pub record IsKnown (schema : Schema) (field : ℕ) : Type 0 where
  pub entry : Entry
  pub at : slice_get schema field ≡ Some entry
  pub indexed : is_indexed entry ≡ true

pub indexed_known : (schema : Schema) → AllByRecursion (IsKnown schema) (indexed_fields schema)
indexed_known schema = go (enumerate_from 0 schema) (entries_at schema)
  where
    go : (ps : List (ℕ × Entry)) → AllByRecursion (λ (p : ℕ × Entry). slice_get schema p.0 ≡ Some p.1) ps → AllByRecursion (IsKnown schema) (map (λ (p : ℕ × Entry). p.0) (filter (λ (p : ℕ × Entry). is_indexed p.1) ps))
    go [] each = tt
    go (p ∷ ps) each = one (is_indexed p.1) refl (go ps each.1)
      where
        one : (b : Bool) → is_indexed p.1 ≡ b → AllByRecursion (IsKnown schema) (map (λ (q : ℕ × Entry). q.0) (filter (λ (q : ℕ × Entry). is_indexed q.1) ps)) → AllByRecursion (IsKnown schema) (map (λ (q : ℕ × Entry). q.0) (cond b (p ∷ filter (λ (q : ℕ × Entry). is_indexed q.1) ps) (filter (λ (q : ℕ × Entry). is_indexed q.1) ps)))
        one true is rest = (record { entry = p.1; at = each.0; indexed = is }, rest)
        one false is rest = rest

pub numbers_known : (schema : Schema) (fields : List IndexedField) → map (λ (f : IndexedField). f.field) fields ≡ indexed_fields schema → AllByRecursion (λ (f : IndexedField). IsKnown schema f.field) fields
numbers_known schema fields names = go fields (subst (AllByRecursion (IsKnown schema)) (sym names) (indexed_known schema))
  where
    go : (fs : List IndexedField) → AllByRecursion (IsKnown schema) (map (λ (f : IndexedField). f.field) fs) → AllByRecursion (λ (f : IndexedField). IsKnown schema f.field) fs
    go [] each = tt
    go (f ∷ fs) each = (each.0, go fs each.1)

-- an indexed field is among the numbers
pub number_there : (schema : Schema) (field : ℕ) (e : Entry) → slice_get schema field ≡ Some e → is_indexed e ≡ true → list_any (nat_eq field) (indexed_fields schema) ≡ true
number_there schema field e at indexed = subst (λ n. list_any (nat_eq n) (indexed_fields schema) ≡ true) (zero-add field) (go 0 schema field at)
  where
    or_true : (b : Bool) → (b || true) ≡ true
    or_true true = refl
    or_true false = refl

    here : (n : ℕ) (x : Entry) (rest : List (ℕ × Entry)) → is_indexed x ≡ true → list_any (nat_eq (n + 0)) (map (λ (p : ℕ × Entry). p.0) (cond (is_indexed x) ((n, x) ∷ rest) rest)) ≡ true
    here n x rest test =
        let same : nat_eq (n + 0) n ≡ true = grind (arith, nat_tests) in
        ap (λ b. list_any (nat_eq (n + 0)) (map (λ (p : ℕ × Entry). p.0) (cond b ((n, x) ∷ rest) rest))) test ∙ ap (λ b. b || list_any (nat_eq (n + 0)) (map (λ (p : ℕ × Entry). p.0) rest)) same

    later : (n m : ℕ) (x : Entry) (rest : List (ℕ × Entry)) (b : Bool) → list_any (nat_eq m) (map (λ (p : ℕ × Entry). p.0) rest) ≡ true → list_any (nat_eq m) (map (λ (p : ℕ × Entry). p.0) (cond b ((n, x) ∷ rest) rest)) ≡ true
    later n m x rest true has = ap (λ b. nat_eq m n || b) has ∙ or_true (nat_eq m n)
    later n m x rest false has = has

    go : (n : ℕ) (es : List Entry) (i : ℕ) → slice_get es i ≡ Some e → list_any (nat_eq (n + i)) (map (λ (p : ℕ × Entry). p.0) (filter (λ (p : ℕ × Entry). is_indexed p.1) (enumerate_from n es))) ≡ true
    go n [] i there = cc
    go n (x ∷ xs) zero there = here n x (filter (λ (p : ℕ × Entry). is_indexed p.1) (enumerate_from (n + 1) xs)) (let same : x ≡ e = cc in ap is_indexed same ∙ indexed)
    go n (x ∷ xs) (suc i) there =
        let up : n + 1 + i ≡ n + suc i = omega arith in
        later n (n + suc i) x (filter (λ (p : ℕ × Entry). is_indexed p.1) (enumerate_from (n + 1) xs)) (is_indexed x) (subst (λ m. list_any (nat_eq m) (map (λ (p : ℕ × Entry). p.0) (filter (λ (p : ℕ × Entry). is_indexed p.1) (enumerate_from (n + 1) xs))) ≡ true) up (go (n + 1) xs i there))

pub small_number : (schema : Schema) (field : ℕ) (e : Entry) → length schema ≤ max_fields → slice_get schema field ≡ Some e → field < 2 ^ 32
small_number schema field e few at = (let inside = slice_get_within schema field e at in omega (arith, few, inside))

-- ---- a term among all

or_false : (a b : Bool) → a ≡ false → (a || b) ≡ true → b ≡ true
or_false true b none some = absurd (true≢false none)
or_false false b none some = some

abbrev pub terms_of : Schema → IndexedField → List (List ℕ)
terms_of schema f = map (λ (x : IndexedTerm). term_of_key schema f.field x.key) f.terms

abbrev pub keys_of : List IndexedTerm → List (List ℕ)
keys_of ts = map (λ (x : IndexedTerm). x.key) ts

-- the terms of a field are told by their value bytes
pub own_among : (schema : Schema) (field : ℕ) (e : Entry) (key : List ℕ) (ts : List IndexedTerm) → slice_get schema field ≡ Some e → list_any (bytes_eq (term_bytes field e.kind key)) (map (λ (x : IndexedTerm). term_of_key schema field x.key) ts) ≡ list_any (bytes_eq key) (keys_of ts)
own_among schema field e key [] at = refl
own_among schema field e key (t ∷ ts) at = ap₂ (λ a b. a || b) (ap (bytes_eq (term_bytes field e.kind key)) (whole_term schema field e t.key at) ∙ same_keys field e.kind key t.key) (own_among schema field e key ts at)

module _ (schema : Schema) (few : length schema ≤ max_fields) (field : ℕ) (e : Entry) (key : List ℕ) (at : slice_get schema field ≡ Some e) where
  abbrev whole : List ℕ
  whole = term_bytes field e.kind key

  -- and aren't those of another
  apart : (f : IndexedField) (ts : List IndexedTerm) → IsKnown schema f.field → f.field ≢ field → list_any (bytes_eq whole) (map (λ (x : IndexedTerm). term_of_key schema f.field x.key) ts) ≡ false
  apart f [] known other = refl
  apart f (t ∷ ts) known other =
      let here : bytes_eq whole (term_of_key schema f.field t.key) ≡ false =
      ap (bytes_eq whole) (whole_term schema f.field known.entry t.key known.at)
      ∙ other_fields field f.field e.kind known.entry.kind key t.key (small_number schema field e few at) (small_number schema f.field known.entry few known.at) other in
      ap₂ (λ a b. a || b) here (apart f ts known other)

  split : (f : IndexedField) (fields : List IndexedField) → list_any (bytes_eq whole) (all_terms schema (f ∷ fields)) ≡ (list_any (bytes_eq whole) (terms_of schema f) || list_any (bytes_eq whole) (all_terms schema fields))
  split f fields = list_any-append (bytes_eq whole) (terms_of schema f) (all_terms schema fields)

  all_apart : (least : ℕ) (fields : List IndexedField) → field < least → IsAscendingFrom least (map (λ (f : IndexedField). f.field) fields) → AllByRecursion (λ (f : IndexedField). IsKnown schema f.field) fields → list_any (bytes_eq whole) (all_terms schema fields) ≡ false
  all_apart least [] behind rise known = refl
  all_apart least (f ∷ fields) behind rise known =
      let first = rise.0 in
      split f fields ∙ ap₂ (λ a b. a || b) (apart f f.terms known.0 (λ same. omega (arith, behind, first, same))) (all_apart (f.field + 1) fields (omega (arith, behind, first)) rise.1 known.1)

  among : (least : ℕ) (fields : List IndexedField) → IsAscendingFrom least (map (λ (f : IndexedField). f.field) fields) → AllByRecursion (λ (f : IndexedField). IsKnown schema f.field) fields → list_any (bytes_eq whole) (all_terms schema fields) ≡ true → list_any (bytes_eq key) (keys_of (terms_in field fields)) ≡ true
  among least [] rise known some = absurd (true≢false (sym some))
  among least (f ∷ fields) rise known some = go (f.field == field) refl (among (f.field + 1) fields rise.1 known.1)
    where
      go : (b : Bool) → (f.field == field) ≡ b → (list_any (bytes_eq whole) (all_terms schema fields) ≡ true → list_any (bytes_eq key) (keys_of (terms_in field fields)) ≡ true) → list_any (bytes_eq key) (keys_of (cond b f.terms (terms_in field fields))) ≡ true
      go true is rest =
          let same : f.field ≡ field = grind (arith, nat_tests, is) in
          let none = all_apart (f.field + 1) fields (omega (arith, same)) rise.1 known.1 in
          let here : list_any (bytes_eq whole) (terms_of schema f) ≡ list_any (bytes_eq key) (keys_of f.terms) = subst (λ n. list_any (bytes_eq whole) (map (λ (x : IndexedTerm). term_of_key schema n x.key) f.terms) ≡ list_any (bytes_eq key) (keys_of f.terms)) (sym same) (own_among schema field e key f.terms at) in
          sym here ∙ no_other (list_any (bytes_eq whole) (terms_of schema f)) (list_any (bytes_eq whole) (all_terms schema fields)) none (sym (split f fields) ∙ some)
        where
          no_other : (a b : Bool) → b ≡ false → (a || b) ≡ true → a ≡ true
          no_other true b none some = refl
          no_other false b none some = absurd (true≢false (sym some ∙ none))
      go false is rest =
          let other : f.field ≢ field = grind (arith, nat_tests, is) in
          rest (or_false (list_any (bytes_eq whole) (terms_of schema f)) (list_any (bytes_eq whole) (all_terms schema fields)) (apart f f.terms known.0 other) (sym (split f fields) ∙ some))

-- ---- found by the value bytes

none_among : (key : List ℕ) (ts : List IndexedTerm) → find (λ (x : IndexedTerm). bytes_eq x.key key) ts ≡ None → list_any (bytes_eq key) (keys_of ts) ≡ false
none_among key [] none = refl
none_among key (t ∷ ts) none = go (bytes_eq t.key key) refl none (none_among key ts)
  where
    go : (b : Bool) → bytes_eq t.key key ≡ b → cond b (Some t) (find (λ (x : IndexedTerm). bytes_eq x.key key) ts) ≡ None → (find (λ (x : IndexedTerm). bytes_eq x.key key) ts ≡ None → list_any (bytes_eq key) (keys_of ts) ≡ false) → (bytes_eq key t.key || list_any (bytes_eq key) (keys_of ts)) ≡ false
    go true is some rest = cc
    go false is some rest = ap (λ b. b || list_any (bytes_eq key) (keys_of ts)) (turned key t.key ∙ is) ∙ rest some

module _ (given : List ℕ → List Posting) (schema : Schema) (few : length schema ≤ max_fields) (fields : List IndexedField) (names : map (λ (f : IndexedField). f.field) fields ≡ indexed_fields schema) (are : AreGiven given schema fields) where
  terms_given : (field : ℕ) (fs : List IndexedField) → AllByRecursion (HasPostingsOf given schema) fs → AllByRecursion (λ (x : IndexedTerm). x.postings ≡ given (term_of_key schema field x.key)) (terms_in field fs)
  terms_given field [] each = tt
  terms_given field (f ∷ fs) each = go (f.field == field) refl (terms_given field fs each.1)
    where
      go : (b : Bool) → (f.field == field) ≡ b → AllByRecursion (λ (x : IndexedTerm). x.postings ≡ given (term_of_key schema field x.key)) (terms_in field fs) → AllByRecursion (λ (x : IndexedTerm). x.postings ≡ given (term_of_key schema field x.key)) (cond b f.terms (terms_in field fs))
      go true is rest = (let same : f.field ≡ field = grind (arith, nat_tests, is) in subst (λ n. AllByRecursion (λ (x : IndexedTerm). x.postings ≡ given (term_of_key schema n x.key)) f.terms) same each.0)
      go false is rest = rest

  -- the postings of a term by its value bytes are those that are given for the whole term
  pub postings_given : (field : ℕ) (e : Entry) (key : List ℕ) → slice_get schema field ≡ Some e → postings_in fields field key ≡ given (term_of_key schema field key)
  postings_given field e key at = go (term_in fields field key) refl
    where
      known : AllByRecursion (λ (f : IndexedField). IsKnown schema f.field) fields
      known = numbers_known schema fields names

      rise : IsAscendingFrom 0 (map (λ (f : IndexedField). f.field) fields)
      rise = subst (IsAscendingFrom 0) (sym names) (fields_ascend schema)

      there : 0 < length (given (term_of_key schema field key)) → list_any (bytes_eq key) (keys_of (terms_in field fields)) ≡ true
      there some = among schema few field e key at 0 fields rise known (subst (λ t. list_any (bytes_eq t) (all_terms schema fields) ≡ true) (whole_term schema field e key at) (are.all (term_of_key schema field key) some))

      go : (o : Option IndexedTerm) → term_in fields field key ≡ o → option_map_or (λ (x : IndexedTerm). x.postings) o [] ≡ given (term_of_key schema field key)
      go None is = none_given (given (term_of_key schema field key)) (λ some. true≢false (sym (there some) ∙ none_among key (terms_in field fields) is))
      go (Some x) is =
          let found = found_all (λ (y : IndexedTerm). y.postings ≡ given (term_of_key schema field y.key)) (λ (y : IndexedTerm). bytes_eq y.key key) (terms_in field fields) x (terms_given field fields are.each_field) is in
          found.0 ∙ ap (λ k. given (term_of_key schema field k)) ((bytes_eq-Decides x.key key).0 found.1)

  -- a term with given postings is one of an indexed field
  pub term_known : (t : List ℕ) → 0 < length (given t) → IsIndexedTerm schema t
  term_known t some = go fields (numbers_known schema fields names) (are.all t some)
    where
      own : (f : IndexedField) (k : IsKnown schema f.field) (ts : List IndexedTerm) → list_any (bytes_eq t) (map (λ (x : IndexedTerm). term_of_key schema f.field x.key) ts) ≡ true → IsIndexedTerm schema t
      own f k [] has = absurd (true≢false (sym has))
      own f k (x ∷ xs) has = one (bytes_eq t (term_of_key schema f.field x.key)) refl has (own f k xs)
        where
          one : (b : Bool) → bytes_eq t (term_of_key schema f.field x.key) ≡ b → (b || list_any (bytes_eq t) (map (λ (y : IndexedTerm). term_of_key schema f.field y.key) xs)) ≡ true → (list_any (bytes_eq t) (map (λ (y : IndexedTerm). term_of_key schema f.field y.key) xs) ≡ true → IsIndexedTerm schema t) → IsIndexedTerm schema t
          one true is h rest = record { field = f.field; entry = k.entry; key = x.key; fits = small_number schema f.field k.entry few k.at; entry_is = k.at; indexed = k.indexed; term_is = (bytes_eq-Decides t (term_of_key schema f.field x.key)).0 is ∙ whole_term schema f.field k.entry x.key k.at }
          one false is h rest = rest h

      go : (fs : List IndexedField) → AllByRecursion (λ (f : IndexedField). IsKnown schema f.field) fs → list_any (bytes_eq t) (all_terms schema fs) ≡ true → IsIndexedTerm schema t
      go [] known has = absurd (true≢false (sym has))
      go (f ∷ fs) known has = one (list_any (bytes_eq t) (terms_of schema f)) refl (sym (list_any-append (bytes_eq t) (terms_of schema f) (all_terms schema fs)) ∙ has) (go fs known.1)
        where
          one : (b : Bool) → list_any (bytes_eq t) (terms_of schema f) ≡ b → (b || list_any (bytes_eq t) (all_terms schema fs)) ≡ true → (list_any (bytes_eq t) (all_terms schema fs) ≡ true → IsIndexedTerm schema t) → IsIndexedTerm schema t
          one true is h rest = own f known.0 f.terms is
          one false is h rest = rest h
