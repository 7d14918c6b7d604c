-- All fields, as they are written to the sections of a segment.
use Rattle.std.proofs.Common.{[], ◌++◌, ◌⊎◌, append-nil, inl, inr, sum_by, ◌+◌, ◌<◌, ◌^◌, ◌≡◌, ◌≤◌, ◌∙◌, ◌∷◌, ◌||◌, Bool, List, Some, ap, ap₂, append_assoc, arith, bytes_eq, cond, false, filter, length, map, nat_eq, refl, slice_get, subst, suc, sym, true, zero, zero-add, ℕ}
use Rattle.std.specs.List.{AllByRecursion, enumerate_from, flat_map, list_any}
use Rattle.std.specs.Option.{option_map_or}
use Rattle.std.proofs.lemmas.Bool.Decides.{nat_tests}
use Rattle.std.proofs.lemmas.List.{map-append}
use Rattle.std.proofs.lemmas.List.Folds.{list_any-append}
use Rattle.std.proofs.lemmas.List.Sums.{sum_by-cons}
use Rattle.std.proofs.lemmas.Option.{slice_get_within}
use Rattle.std.proofs.lemmas.Slice.Eq.{bytes_eq-Decides}
use Rattle.definitions.proofs.DocumentBounds.{all-map as all_then}
use Rattle.definitions.proofs.Lists.{all_push}
use Rattle.definitions.specs.Postings.{Posting}
use Rattle.definitions.specs.Schema.{Entry, Schema, has_positions, is_indexed}
use Rattle.definitions.specs.Terms.{term_bytes}
use Rattle.definitions.specs.declared.fault.Fault.{Fault}
use Rattle.layouts.specs.InvertedIndexes.{AreGiven, AreSections, HasPostingsOf, IndexedField, IndexedTerm, IsField, IsPosting, IsTerm, all_terms, field_ids, field_terms, indexed_fields, option_of_term, term_of_key, Sections}
use Rattle.layouts.specs.TermPostings.{AreTermPostings}
use Rattle.layouts.specs.TermSections.{block_size, field_terms_bytes}
use Rattle.postings_writer.specs.TermWriting.{recorded_count}
use Rattle.postings_writer.specs.Fields.{option_of_key}
use Rattle.postings_writer.specs.Limits.{FieldPasses, IsFieldRefusal, IsFieldWithin, IsSerializeRefusal, IsTermWithin, TermPasses}
use Rattle.postings_writer.specs.Occurrences.{Occurrence, places_of, postings_at, postings_in}
use Rattle.postings_writer.specs.Sections.{AreFieldsAdded, IsFieldOf, IsTermOf}
use Rattle.postings_writer.specs.Writers.{IsIndexedTerm, IsOccurrence, Stands, Writer}
use Rattle.postings_writer.proofs.Bridges.{same_option}
use Rattle.postings_writer.proofs.Occurrences.{AreOccurrences, are_postings, counts_recorded, occurrences_stand, some_occurrences, some_postings}
use Rattle.terms.proofs.TermParts.{same_keys}
use Rattle.postings_writer.proofs.StandingFields.{occurrences_in}
use Rattle.postings_writer.proofs.WrittenFields.{flat_map_push}

-- ---- field by field

-- the numbers of those that are indexed
abbrev pub numbers : List (ℕ × Entry) → List ℕ
numbers es = map (λ (p : ℕ × Entry). p.0) (filter (λ (p : ℕ × Entry). is_indexed p.1) es)

-- a field that has the terms of its occurrences
pub record IsStanding (schema : Schema) (norms : List (ℕ × List ℕ)) (os : List Occurrence) (f : IndexedField) : Type 0 where
  pub entry : Entry
  pub at : slice_get schema f.field ≡ Some entry
  pub is : IsFieldOf entry (field_ids norms f.field) (occurrences_in f.field entry os) f

-- the indexed ones of some of all fields were written
pub record AreWrittenOf (schema : Schema) (norms : List (ℕ × List ℕ)) (os : List Occurrence) (was now : Sections) (all rest : List (ℕ × Entry)) : Type 0 where
  pub fields : List IndexedField
  pub names : numbers all ≡ map (λ (f : IndexedField). f.field) fields ++ numbers rest
  pub each : AllByRecursion (IsStanding schema norms os) fields
  pub added : AreFieldsAdded was now fields

pub none_written : (schema : Schema) (norms : List (ℕ × List ℕ)) (os : List Occurrence) (was : Sections) (all : List (ℕ × Entry)) → AreWrittenOf schema norms os was was all all
none_written schema norms os was all = record {
  fields = [];
  names = refl;
  each = tt;
  added = record { terms = sym (append-nil was.terms); postings = sym (append-nil was.postings); positions = sym (append-nil was.positions) };
}

pub joined : {A : Type 0} (f : A → List ℕ) (was now new : List ℕ) (xs : List A) (x : A) → now ≡ was ++ flat_map f xs → new ≡ now ++ flat_map f (x ∷ []) → new ≡ was ++ flat_map f (xs ++ x ∷ [])
joined f was now new xs x first more = more ∙ ap₂ (λ ys zs. ys ++ zs) first (append-nil (f x)) ∙ append_assoc was (flat_map f xs) (f x) ∙ ap (λ ys. was ++ ys) (sym (flat_map_push f xs x))

pub added_more : (was now new : Sections) (fields : List IndexedField) (f : IndexedField) → AreFieldsAdded was now fields → AreFieldsAdded now new (f ∷ []) → AreFieldsAdded was new (fields ++ f ∷ [])
added_more was now new fields f before more = record {
  terms = joined (field_terms_bytes (block_size true)) was.terms now.terms new.terms (map field_terms fields) (field_terms f) before.terms more.terms ∙ ap (λ ts. was.terms ++ flat_map (field_terms_bytes (block_size true)) ts) (sym (map-append field_terms fields (f ∷ [])));
  postings = joined (λ (g : IndexedField). flat_map (λ (t : IndexedTerm). t.postings_bytes) g.terms) was.postings now.postings new.postings fields f before.postings more.postings;
  positions = joined (λ (g : IndexedField). flat_map (λ (t : IndexedTerm). t.positions_bytes) g.terms) was.positions now.positions new.positions fields f before.positions more.positions;
}

module _ (schema : Schema) (norms : List (ℕ × List ℕ)) (os : List Occurrence) (was now : Sections) (all rest after : List (ℕ × Entry)) (p : ℕ × Entry) (before : AreWrittenOf schema norms os was now all rest) (first : rest ≡ p ∷ after) where
  numbers_first : (b : Bool) → is_indexed p.1 ≡ b → numbers rest ≡ cond b (p.0 ∷ numbers after) (numbers after)
  numbers_first b e = ap numbers first ∙ ap (λ c. map (λ (q : ℕ × Entry). q.0) (cond c (p ∷ filter (λ (q : ℕ × Entry). is_indexed q.1) after) (filter (λ (q : ℕ × Entry). is_indexed q.1) after))) e ∙ go b
    where
      go : (c : Bool) → map (λ (q : ℕ × Entry). q.0) (cond c (p ∷ filter (λ (q : ℕ × Entry). is_indexed q.1) after) (filter (λ (q : ℕ × Entry). is_indexed q.1) after)) ≡ cond c (p.0 ∷ numbers after) (numbers after)
      go true = refl
      go false = refl

  -- a field that isn't indexed is left out
  pub left_out : is_indexed p.1 ≡ false → AreWrittenOf schema norms os was now all after
  left_out e = record { fields = before.fields; names = before.names ∙ ap (λ ns. map (λ (f : IndexedField). f.field) before.fields ++ ns) (numbers_first false e); each = before.each; added = before.added }

  -- one field more
  pub field_written : (new : Sections) (f : IndexedField) → is_indexed p.1 ≡ true → slice_get schema p.0 ≡ Some p.1 → f.field ≡ p.0 → IsFieldOf p.1 (field_ids norms p.0) (occurrences_in p.0 p.1 os) f → AreFieldsAdded now new (f ∷ []) → AreWrittenOf schema norms os was new all after
  field_written new f e at named is more = record {
    fields = before.fields ++ f ∷ [];
    names = before.names ∙ ap (λ ns. map (λ (g : IndexedField). g.field) before.fields ++ ns) (numbers_first true e ∙ ap (λ n. n ∷ numbers after) (sym named)) ∙ sym (append_assoc (map (λ (g : IndexedField). g.field) before.fields) (f.field ∷ []) (numbers after)) ∙ ap (λ ns. ns ++ numbers after) (sym (map-append (λ (g : IndexedField). g.field) before.fields (f ∷ [])));
    each = all_push (IsStanding schema norms os) before.fields f before.each (record { entry = p.1; at = subst (λ n. slice_get schema n ≡ Some p.1) (sym named) at; is = subst (λ n. IsFieldOf p.1 (field_ids norms n) (occurrences_in n p.1 os) f) (sym named) is });
    added = added_more was now new before.fields f before.added more;
  }

-- each entry stands at its number
pub entries_at : (schema : Schema) → AllByRecursion (λ (p : ℕ × Entry). slice_get schema p.0 ≡ Some p.1) (enumerate_from 0 schema)
entries_at schema = go 0 schema (λ i. ap (slice_get schema) (zero-add i))
  where
    go : (n : ℕ) (es : List Entry) → ((i : ℕ) → slice_get schema (n + i) ≡ slice_get es i) → AllByRecursion (λ (p : ℕ × Entry). slice_get schema p.0 ≡ Some p.1) (enumerate_from n es)
    go n [] same = tt
    go n (e ∷ es) same = (ap (slice_get schema) (let P : n ≡ n + 0 = omega arith in P) ∙ same 0, go (n + 1) es (λ i. ap (slice_get schema) (let P : n + 1 + i ≡ n + suc i = omega arith in P) ∙ same (suc i)))

-- ---- what was written

-- fewer documents than in the segment
more_docs : (n num_docs : ℕ) (ps : List (ℕ × ℕ)) → n ≤ num_docs → AreOccurrences n ps → AreOccurrences num_docs ps
more_docs n num_docs ps le are = record { rising = are.rising; within = all_then (λ p. p.0 < n) (λ p. p.0 < num_docs) ps (λ p is. omega arith) are.within; placed = are.placed }

-- a term with the postings of occurrences, as the layout has it
term_stands : (num_docs : ℕ) (e : Entry) (ids : List ℕ) (occurrences : List ℕ → List (ℕ × ℕ)) (t : IndexedTerm) → ((key : List ℕ) → AreOccurrences num_docs (occurrences key)) → IsTermOf e ids occurrences t → IsTerm (option_of_key e t.key) num_docs ids t
term_stands num_docs e ids occurrences t are is =
    let option = option_of_key e t.key in
    let ps = postings_at option (occurrences t.key) in
    let counts : map (λ (p : Posting). recorded_count option p.count) t.postings ≡ map (λ (p : Posting). p.count) t.postings =
    ap (map (λ (p : Posting). recorded_count option p.count)) is.postings_are ∙ counts_recorded option (occurrences t.key) ∙ ap (map (λ (p : Posting). p.count)) (sym is.postings_are) in
    record {
      has_postings = subst (λ (qs : List Posting). 0 < length qs) (sym is.postings_are) (some_postings option (occurrences t.key) is.has_occurrences);
      each_posting = subst (λ (qs : List Posting). AllByRecursion (IsPosting (has_positions option) num_docs) qs) (sym is.postings_are) (are_postings num_docs option (occurrences t.key) (are t.key));
      postings_are = subst (λ ns. AreTermPostings option ids (map (λ (p : Posting). p.doc) t.postings) ns t.postings_bytes) counts is.spelled.postings_are;
      positions_are = is.spelled.positions_are;
    }

-- a term that has occurrences is known
pub term_known : (schema : Schema) (n : ℕ) (t : List ℕ) (os : List Occurrence) → AllByRecursion (IsOccurrence schema n) os → 0 < length (places_of t os) → IsIndexedTerm schema t
term_known schema n t [] each some = absurd (omega arith)
term_known schema n t (o ∷ os) each some = go (bytes_eq o.term t) refl (term_known schema n t os each.1) some
  where
    go : (b : Bool) → bytes_eq o.term t ≡ b → (0 < length (places_of t os) → IsIndexedTerm schema t) → 0 < length (map {B = ℕ × ℕ} (λ (x : Occurrence). (x.doc, x.position)) (cond b (o ∷ filter (λ (x : Occurrence). bytes_eq x.term t) os) (filter (λ (x : Occurrence). bytes_eq x.term t) os))) → IsIndexedTerm schema t
    go true e later s = subst (IsIndexedTerm schema) ((bytes_eq-Decides o.term t).0 e) each.0.known
    go false e later s = later s

-- an indexed entry stands among the numbers, at its index behind the first
indexed_at : (n : ℕ) (es : List Entry) (i : ℕ) (e : Entry) → slice_get es i ≡ Some e → is_indexed e ≡ true → list_any (nat_eq (n + i)) (numbers (enumerate_from n es)) ≡ true
indexed_at n [] i e at indexed = cc
indexed_at n (x ∷ xs) zero e at indexed =
    let same : x ≡ e = cc in
    let test : is_indexed x ≡ true = ap is_indexed same ∙ indexed in
    let here : nat_eq (n + 0) n ≡ true = grind (arith, nat_tests) in
    ap (λ b. list_any (nat_eq (n + 0)) (map (λ (q : ℕ × Entry). q.0) (cond b ((n, x) ∷ rest) rest))) test ∙ ap (λ b. b || list_any (nat_eq (n + 0)) (map (λ (q : ℕ × Entry). q.0) rest)) here
  where
    rest : List (ℕ × Entry)
    rest = filter (λ (q : ℕ × Entry). is_indexed q.1) (enumerate_from (n + 1) xs)
indexed_at n (x ∷ xs) (suc i) e at indexed = go (is_indexed x) (indexed_at (n + 1) xs i e at indexed)
  where
    rest : List (ℕ × Entry)
    rest = filter (λ (q : ℕ × Entry). is_indexed q.1) (enumerate_from (n + 1) xs)

    up : n + 1 + i ≡ n + suc i
    up = omega arith

    or_true : (b : Bool) → (b || true) ≡ true
    or_true true = refl
    or_true false = refl

    go : (b : Bool) → list_any (nat_eq (n + 1 + i)) (map (λ (q : ℕ × Entry). q.0) rest) ≡ true → list_any (nat_eq (n + suc i)) (map (λ (q : ℕ × Entry). q.0) (cond b ((n, x) ∷ rest) rest)) ≡ true
    go true later = ap (λ b. nat_eq (n + suc i) n || b) (ap (λ m. list_any (nat_eq m) (map (λ (q : ℕ × Entry). q.0) rest)) (sym up) ∙ later) ∙ or_true (nat_eq (n + suc i) n)
    go false later = ap (λ m. list_any (nat_eq m) (map (λ (q : ℕ × Entry). q.0) rest)) (sym up) ∙ later

module _ (schema : Schema) (w : Writer) (num_docs : ℕ) (norms : List (ℕ × List ℕ)) (os : List Occurrence) (stands : Stands schema w os) (le : w.num_docs ≤ num_docs) where
  -- a term of a field, by all its bytes
  whole : (field : ℕ) (e : Entry) (key : List ℕ) → slice_get schema field ≡ Some e → term_of_key schema field key ≡ term_bytes field e.kind key
  whole field e key at = ap (λ o. option_map_or (λ (x : Entry). term_bytes field x.kind key) o []) at

  fits : (field : ℕ) (e : Entry) → slice_get schema field ≡ Some e → field < 2 ^ 32
  fits field e at = (let inside = slice_get_within schema field e at in let few = stands.schema_fits in omega arith)

  -- what is recorded of it
  option_is : (field : ℕ) (e : Entry) (key : List ℕ) → slice_get schema field ≡ Some e → option_of_term schema (term_of_key schema field key) ≡ option_of_key e key
  option_is field e key at = ap (option_of_term schema) (whole field e key at) ∙ same_option schema field e key (fits field e at) at

  field_stands : (f : IndexedField) → IsStanding schema norms os f → IsField schema num_docs norms f
  field_stands f is = record {
    ascend = is.is.ascend;
    terms_fit = is.is.terms_fit;
    tokens_fit = is.is.tokens_fit;
    each_term = all_then (IsTermOf is.entry (field_ids norms f.field) (occurrences_in f.field is.entry os)) (λ (t : IndexedTerm). IsTerm (option_of_term schema (term_of_key schema f.field t.key)) num_docs (field_ids norms f.field) t) f.terms
        (λ t term. subst (λ o. IsTerm o num_docs (field_ids norms f.field) t) (sym (option_is f.field is.entry t.key is.at)) (term_stands num_docs is.entry (field_ids norms f.field) (occurrences_in f.field is.entry os) t (λ key. more_docs w.num_docs num_docs (occurrences_in f.field is.entry os key) le (occurrences_stand schema w os (term_bytes f.field is.entry.kind key) stands)) term))
        is.is.each_term;
  }

  field_within : (f : IndexedField) → IsStanding schema norms os f → IsFieldWithin schema f
  field_within f is = record { terms_fit = is.is.terms_fit; each_term = all_then (IsTermOf is.entry (field_ids norms f.field) (occurrences_in f.field is.entry os)) (λ (t : IndexedTerm). IsTermWithin (option_of_term schema (term_of_key schema f.field t.key)) t) f.terms (λ t term. subst (λ o. IsTermWithin o t) (sym (option_is f.field is.entry t.key is.at)) term.spelled.within) is.is.each_term }

  abbrev given : List ℕ → List Posting
  given t = postings_in (option_of_term schema t) t os

  field_given : (f : IndexedField) → IsStanding schema norms os f → HasPostingsOf given schema f
  field_given f is = all_then (IsTermOf is.entry (field_ids norms f.field) (occurrences_in f.field is.entry os)) (λ (t : IndexedTerm). t.postings ≡ given (term_of_key schema f.field t.key)) f.terms
      (λ t term. term.postings_are ∙ ap₂ (λ o bytes. postings_at o (places_of bytes os)) (sym (option_is f.field is.entry t.key is.at)) (sym (whole f.field is.entry t.key is.at)))
      is.is.each_term

  -- ---- each term that has postings is there

  term_told : (field : ℕ) (e : Entry) (key : List ℕ) → slice_get schema field ≡ Some e → (ts : List IndexedTerm) → list_any (bytes_eq key) (map (λ (x : IndexedTerm). x.key) ts) ≡ true → list_any (bytes_eq (term_bytes field e.kind key)) (map (λ (x : IndexedTerm). term_of_key schema field x.key) ts) ≡ true
  term_told field e key at ts among = sym (go ts) ∙ among
    where
      go : (us : List IndexedTerm) → list_any (bytes_eq key) (map (λ (x : IndexedTerm). x.key) us) ≡ list_any (bytes_eq (term_bytes field e.kind key)) (map (λ (x : IndexedTerm). term_of_key schema field x.key) us)
      go [] = refl
      go (u ∷ us) = ap₂ (λ a b. a || b) (sym (same_keys field e.kind key u.key) ∙ ap (bytes_eq (term_bytes field e.kind key)) (sym (whole field e u.key at))) (go us)

  -- a known term that has occurrences stands among those of its field
  term_there : (t : List ℕ) (k : IsIndexedTerm schema t) → 0 < length (places_of t os) → (f : IndexedField) → f.field ≡ k.field → IsStanding schema norms os f → list_any (bytes_eq t) (map (λ (x : IndexedTerm). term_of_key schema f.field x.key) f.terms) ≡ true
  term_there t k some f same is =
      let e : is.entry ≡ k.entry = (let both : Some is.entry ≡ Some k.entry = sym is.at ∙ ap (slice_get schema) same ∙ k.entry_is in cc) in
      let here : term_bytes f.field is.entry.kind k.key ≡ t = ap₂ (λ n (x : Entry). term_bytes n x.kind k.key) same e ∙ sym k.term_is in
      let P : List ℕ → Type 0 = λ bytes. list_any (bytes_eq bytes) (map (λ (x : IndexedTerm). term_of_key schema f.field x.key) f.terms) ≡ true in
      let Q : List ℕ → Type 0 = λ bytes. 0 < length (places_of bytes os) in
      subst P here (term_told f.field is.entry k.key is.at f.terms (is.is.all k.key (subst Q (sym here) some)))

  field_there : (t : List ℕ) (k : IsIndexedTerm schema t) → 0 < length (places_of t os) → (fields : List IndexedField) → list_any (nat_eq k.field) (map (λ (f : IndexedField). f.field) fields) ≡ true → AllByRecursion (IsStanding schema norms os) fields → list_any (bytes_eq t) (all_terms schema fields) ≡ true
  field_there t k some [] among each = cc
  field_there t k some (f ∷ fields) among each = go (nat_eq k.field f.field) refl (field_there t k some fields) among
    where
      split : list_any (bytes_eq t) (all_terms schema (f ∷ fields)) ≡ (list_any (bytes_eq t) (map (λ (x : IndexedTerm). term_of_key schema f.field x.key) f.terms) || list_any (bytes_eq t) (all_terms schema fields))
      split = list_any-append (bytes_eq t) (map (λ (x : IndexedTerm). term_of_key schema f.field x.key) f.terms) (all_terms schema fields)

      or_true : (b : Bool) → (b || true) ≡ true
      or_true true = refl
      or_true false = refl

      go : (b : Bool) → nat_eq k.field f.field ≡ b → (list_any (nat_eq k.field) (map (λ (g : IndexedField). g.field) fields) ≡ true → AllByRecursion (IsStanding schema norms os) fields → list_any (bytes_eq t) (all_terms schema fields) ≡ true) → (b || list_any (nat_eq k.field) (map (λ (g : IndexedField). g.field) fields)) ≡ true → list_any (bytes_eq t) (all_terms schema (f ∷ fields)) ≡ true
      go true e later a = (let same : f.field ≡ k.field = grind (arith, nat_tests) in split ∙ ap (λ b. b || list_any (bytes_eq t) (all_terms schema fields)) (term_there t k some f same each.0))
      go false e later a = split ∙ ap (λ b. list_any (bytes_eq t) (map (λ (x : IndexedTerm). term_of_key schema f.field x.key) f.terms) || b) (later a each.1) ∙ or_true (list_any (bytes_eq t) (map (λ (x : IndexedTerm). term_of_key schema f.field x.key) f.terms))

  -- an indexed field is among the numbers
  number_there : (field : ℕ) (e : Entry) → slice_get schema field ≡ Some e → is_indexed e ≡ true → list_any (nat_eq field) (indexed_fields schema) ≡ true
  number_there field e at indexed = subst (λ n. list_any (nat_eq n) (indexed_fields schema) ≡ true) (zero-add field) (indexed_at 0 schema field e at indexed)

  -- what all fields together are
  pub all_written : (was now : Sections) (rest : List (ℕ × Entry)) → was ≡ record { terms = 1 ∷ []; postings = []; positions = [] } → rest ≡ [] → AreWrittenOf schema norms os was now (enumerate_from 0 schema) rest → (fields : List IndexedField) × AreSections schema num_docs norms fields now.terms now.postings now.positions × AreGiven given schema fields × AllByRecursion (IsFieldWithin schema) fields
  all_written was now rest new none written =
      let names : map (λ (f : IndexedField). f.field) written.fields ≡ indexed_fields schema = sym (written.names ∙ ap (λ es. map (λ (f : IndexedField). f.field) written.fields ++ numbers es) none ∙ append-nil (map (λ (f : IndexedField). f.field) written.fields)) in (
        written.fields,
        record {
          names = names;
          each_field = all_then (IsStanding schema norms os) (IsField schema num_docs norms) written.fields field_stands written.each;
          terms_are = (true, written.added.terms ∙ ap (λ (s : Sections). s.terms ++ flat_map (field_terms_bytes (block_size true)) (map field_terms written.fields)) new);
          postings_are = written.added.postings ∙ ap (λ (s : Sections). s.postings ++ flat_map (λ (f : IndexedField). flat_map (λ (t : IndexedTerm). t.postings_bytes) f.terms) written.fields) new;
          positions_are = written.added.positions ∙ ap (λ (s : Sections). s.positions ++ flat_map (λ (f : IndexedField). flat_map (λ (t : IndexedTerm). t.positions_bytes) f.terms) written.fields) new;
        },
        record {
          each_field = all_then (IsStanding schema norms os) (HasPostingsOf given schema) written.fields field_given written.each;
          all = λ t has.
              let some = some_occurrences (option_of_term schema t) (places_of t os) has in
              let k = term_known schema w.num_docs t os stands.each_occurrence some in
              field_there t k some written.fields (subst (λ ns. list_any (nat_eq k.field) ns ≡ true) (sym names) (number_there k.field k.entry k.entry_is k.indexed)) written.each;
        },
        all_then (IsStanding schema norms os) (IsFieldWithin schema) written.fields field_within written.each,
      )

  -- ---- what is refused

  abbrev postings_of : ℕ → Entry → List ℕ → List Posting
  postings_of field e key = postings_at (option_of_key e key) (occurrences_in field e os key)

  given_is : (field : ℕ) (e : Entry) (key : List ℕ) → slice_get schema field ≡ Some e → postings_of field e key ≡ given (term_of_key schema field key)
  given_is field e key at = ap₂ (λ o bytes. postings_at o (places_of bytes os)) (sym (option_is field e key at)) (sym (whole field e key at))

  -- a field that passes a limit is one of all
  pub field_refused : (fault : Fault) (field : ℕ) (e : Entry) → slice_get schema field ≡ Some e → is_indexed e ≡ true → IsFieldRefusal fault (option_of_key e) (field_ids norms field) (postings_of field e) → IsSerializeRefusal fault schema norms given
  field_refused fault field e at indexed (inl memory) = inl memory
  field_refused fault field e at indexed (inr (limit, passes)) = inr (limit, record { field = field; indexed = ap (λ o. option_map_or is_indexed o false) at ∙ indexed; passes = go passes })
    where
      there : (key : List ℕ) → postings_of field e key ≡ given (term_of_key schema field key)
      there key = given_is field e key at

      some : (keys : List (List ℕ)) → AllByRecursion (λ key. 0 < length (postings_of field e key)) keys → AllByRecursion (λ key. 0 < length (given (term_of_key schema field key))) keys
      some keys all = all_then (λ key. 0 < length (postings_of field e key)) (λ key. 0 < length (given (term_of_key schema field key))) keys (λ key has. subst (λ (ps : List Posting). 0 < length ps) (there key) has) all

      tokens : (keys : List (List ℕ)) → sum_by (λ key. sum_by (λ (p : Posting). p.count) (postings_of field e key)) keys ≡ sum_by (λ key. sum_by (λ (p : Posting). p.count) (given (term_of_key schema field key))) keys
      tokens [] = refl
      tokens (key ∷ keys) =
          let here = ap (sum_by (λ (p : Posting). p.count)) (there key) in
          let later = tokens keys in
          let a = sum_by-cons (λ k. sum_by (λ (p : Posting). p.count) (postings_of field e k)) key keys in
          let b = sum_by-cons (λ k. sum_by (λ (p : Posting). p.count) (given (term_of_key schema field k))) key keys in
          omega arith

      many : (keys : List (List ℕ)) → (4294967295 < length keys) ⊎ (2 ^ 64 ≤ sum_by (λ key. sum_by (λ (p : Posting). p.count) (postings_of field e key)) keys) → (4294967295 < length keys) ⊎ (2 ^ 64 ≤ sum_by (λ key. sum_by (λ (p : Posting). p.count) (given (term_of_key schema field key))) keys)
      many keys (inl long) = inl long
      many keys (inr past) = inr (subst (λ n. 2 ^ 64 ≤ n) (tokens keys) past)

      go : FieldPasses (option_of_key e) (field_ids norms field) (postings_of field e) → FieldPasses (λ key. option_of_term schema (term_of_key schema field key)) (field_ids norms field) (λ key. given (term_of_key schema field key))
      go (inl (key, term)) = inl (key, subst (λ ps. TermPasses (option_of_term schema (term_of_key schema field key)) (field_ids norms field) ps) (there key) (subst (λ o. TermPasses o (field_ids norms field) (postings_of field e key)) (sym (option_is field e key at)) term))
      go (inr t) = inr (record { keys = t.keys; ascend = t.ascend; each_key = some t.keys t.each_key; many = many t.keys t.many })
