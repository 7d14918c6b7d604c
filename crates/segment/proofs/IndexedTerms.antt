-- The terms of a merge are those of the living documents, where members stand for documents.
use Rattle.std.proofs.Common.{[], Bool, List, Some, ap, ap₂, arith, bytes_eq, false, inl, inr, length, map, nat_eq, refl, slice_get, subst, sum_by, sym, true, true≢false, ◌++◌, ◌+◌, ◌<◌, ◌^◌, ◌||◌, ◌≡◌, ◌≤◌, ◌⊎◌, ◌∙◌, ◌∷◌, ℕ}
use Rattle.std.proofs.lemmas.Bool.Decides.{nat_tests}
use Rattle.std.proofs.lemmas.List.Folds.{list_any-append}
use Rattle.std.proofs.lemmas.List.Sums.{sum_by-cons}
use Rattle.std.specs.List.{AllByRecursion, list_any}
use Rattle.std.specs.Option.{option_map_or}
use Rattle.definitions.proofs.DocumentBounds.{all-map as all_then}
use Rattle.definitions.proofs.MergedRows.{live_postings}
use Rattle.definitions.specs.Alive.{Segment, live}
use Rattle.definitions.specs.Analyzers.{Analyzer}
use Rattle.definitions.specs.Merging.{documents_in, flags_of, merged_postings, num_living, renumbered}
use Rattle.definitions.specs.Postings.{Posting, postings}
use Rattle.definitions.specs.Schema.{Entry, Schema, is_indexed, max_fields}
use Rattle.definitions.specs.Terms.{term_bytes}
use Rattle.definitions.specs.declared.fault.Fault.{Fault}
use Rattle.layouts.specs.InvertedIndexes.{AreIndexed, HasPostingsOf, IndexedField, IndexedTerm, all_terms, field_ids, indexed_fields, option_of_term, term_of_key}
use Rattle.merging.proofs.MembersWritten.{as_defined}
use Rattle.merging.specs.Members.{AreMembers, merged_in, parts_of}
use Rattle.merging.specs.MergedFields.{IsTermGiven}
use Rattle.merging.specs.ToldFields.{IsMergeRefusal, IsMergedField}
use Rattle.merging.specs.declared.member.Member.{Member}
use Rattle.merging.specs.Mappings.{end_of}
use Rattle.postings_writer.specs.Fields.{option_of_key}
use Rattle.postings_writer.specs.Limits.{FieldPasses, IsSerializeRefusal, TermPasses}
use Rattle.postings_writer.specs.Writers.{IsIndexedTerm}
use Rattle.segment.proofs.GivenTerms.{number_there, own_among, postings_given, term_known, terms_of}
use Rattle.segment.proofs.MergedTerms.{option_is}
use Rattle.segment_reader.proofs.TermsHeld.{term_there as whole_term}

-- ---- members that have the terms of documents

-- each member has the terms of a segment's documents, and tells which of these are alive
abbrev pub AreOfDocuments : Schema → Analyzer → List Member → List (List IndexedField) → List Segment → Type 0
AreOfDocuments schema analyze [] all segments = segments ≡ []
AreOfDocuments schema analyze (m ∷ ms) [] segments = ⊥
AreOfDocuments schema analyze (m ∷ ms) (fields ∷ all) [] = ⊥
AreOfDocuments schema analyze (m ∷ ms) (fields ∷ all) (rows ∷ segments) = (m.doc_ids.flags ≡ flags_of rows) × AreIndexed schema analyze (documents_in rows) fields × AreOfDocuments schema analyze ms all segments

abbrev given_parts : Schema → Analyzer → List ℕ → List Segment → List (List Bool × List Posting)
given_parts schema analyze t segments = map (λ rows. (flags_of rows, postings schema analyze t (documents_in rows))) segments

parts_given : (schema : Schema) (analyze : Analyzer) (few : length schema ≤ max_fields) (next end : ℕ) (ms : List Member) (all : List (List IndexedField)) (segments : List Segment) (field : ℕ) (e : Entry) (key : List ℕ) → slice_get schema field ≡ Some e → AreMembers schema next end ms all → AreOfDocuments schema analyze ms all segments → parts_of field key ms all ≡ given_parts schema analyze (term_of_key schema field key) segments
parts_given schema analyze few next end [] all segments field e key at are of = ap (given_parts schema analyze (term_of_key schema field key)) (sym of)
parts_given schema analyze few next end (m ∷ ms) [] segments field e key at are of = absurd of
parts_given schema analyze few next end (m ∷ ms) (fields ∷ all) [] field e key at are of = absurd of
parts_given schema analyze few next end (m ∷ ms) (fields ∷ all) (rows ∷ segments) field e key at are of =
    ap₂ (λ part parts. part ∷ parts)
    (ap₂ (λ flags ps. (flags, ps)) of.0 (postings_given (λ t. postings schema analyze t (documents_in rows)) schema few fields are.0.is_reader.sections.names of.1 field e key at))
    (parts_given schema analyze few (end_of m.doc_ids) end ms all segments field e key at are.2 of.2)

-- a term that living documents have is one of an indexed field
some_living : (base : ℕ) (flags : List Bool) (ps : List Posting) → 0 < length (renumbered base flags ps) → 0 < length ps
some_living base flags [] some = absurd (omega (arith, some))
some_living base flags (p ∷ ps) some = omega arith

living_known : (schema : Schema) (analyze : Analyzer) (few : length schema ≤ max_fields) (next end base : ℕ) (ms : List Member) (all : List (List IndexedField)) (segments : List Segment) (t : List ℕ) → AreMembers schema next end ms all → AreOfDocuments schema analyze ms all segments → 0 < length (merged_postings base (given_parts schema analyze t segments)) → IsIndexedTerm schema t
living_known schema analyze few next end base [] all segments t are of some = absurd (let none = ap (λ ss. length (merged_postings base (given_parts schema analyze t ss))) of in omega (arith, some, none))
living_known schema analyze few next end base (m ∷ ms) [] segments t are of some = absurd of
living_known schema analyze few next end base (m ∷ ms) (fields ∷ all) [] t are of some = absurd of
living_known schema analyze few next end base (m ∷ ms) (fields ∷ all) (rows ∷ segments) t are of some = go (renumbered base (flags_of rows) (postings schema analyze t (documents_in rows))) refl (living_known schema analyze few (end_of m.doc_ids) end (base + num_living (flags_of rows)) ms all segments t are.2 of.2)
  where
    later : List Posting
    later = merged_postings (base + num_living (flags_of rows)) (given_parts schema analyze t segments)

    go : (ps : List Posting) → renumbered base (flags_of rows) (postings schema analyze t (documents_in rows)) ≡ ps → (0 < length later → IsIndexedTerm schema t) → IsIndexedTerm schema t
    go [] none rest = rest (let left = ap (λ ps. length (ps ++ later)) none in omega (arith, some, left))
    go (p ∷ ps) is rest =
        let own = some_living base (flags_of rows) (postings schema analyze t (documents_in rows)) (let long = ap length is in omega (arith, long)) in
        term_known (λ u. postings schema analyze u (documents_in rows)) schema few fields are.0.is_reader.sections.names of.1 t own

module _ (schema : Schema) (analyze : Analyzer) (num_docs : ℕ) (norms : List (ℕ × List ℕ)) (ms : List Member) (all : List (List IndexedField)) (segments : List Segment) (few : length schema ≤ max_fields) (are : AreMembers schema 0 num_docs ms all) (of : AreOfDocuments schema analyze ms all segments) where
  abbrev given : List ℕ → List Posting
  given t = postings schema analyze t (live segments)

  -- the merged postings of a term are those of the living documents
  merged_is : (field : ℕ) (e : Entry) (key : List ℕ) → slice_get schema field ≡ Some e → merged_in field key ms all ≡ given (term_of_key schema field key)
  merged_is field e key at =
      as_defined schema 0 num_docs ms all field key are
      ∙ ap (merged_postings 0) (parts_given schema analyze few 0 num_docs ms all segments field e key at are of)
      ∙ sym (live_postings schema analyze (term_of_key schema field key) segments)

  field_given : (f : IndexedField) → IsMergedField schema norms ms all f → HasPostingsOf given schema f
  field_given f is = all_then (IsTermGiven is.entry (field_ids norms f.field) (λ key. merged_in f.field key ms all)) (λ (t : IndexedTerm). t.postings ≡ given (term_of_key schema f.field t.key)) f.terms (λ t term. term.postings_are ∙ merged_is f.field is.entry t.key is.at) is.is_given.each_term

  -- ---- each term that has postings is there

  term_there : (t : List ℕ) (k : IsIndexedTerm schema t) → 0 < length (given t) → (f : IndexedField) → f.field ≡ k.field → IsMergedField schema norms ms all f → list_any (bytes_eq t) (terms_of schema f) ≡ true
  term_there t k some f same is =
      let e : is.entry ≡ k.entry = (let both : Some is.entry ≡ Some k.entry = sym is.at ∙ ap (slice_get schema) same ∙ k.entry_is in cc) in
      let here : term_bytes f.field is.entry.kind k.key ≡ t = ap₂ (λ n (x : Entry). term_bytes n x.kind k.key) same e ∙ sym k.term_is in
      let whole : term_of_key schema f.field k.key ≡ t = whole_term schema f.field is.entry k.key is.at ∙ here in
      let has : 0 < length (merged_in f.field k.key ms all) = subst (λ (ps : List Posting). 0 < length ps) (sym (merged_is f.field is.entry k.key is.at ∙ ap given whole)) some in
      subst (λ bytes. list_any (bytes_eq bytes) (terms_of schema f) ≡ true) here (own_among schema f.field is.entry k.key f.terms is.at ∙ is.is_given.all k.key has)

  or_true : (b : Bool) → (b || true) ≡ true
  or_true true = refl
  or_true false = refl

  field_there : (t : List ℕ) (k : IsIndexedTerm schema t) → 0 < length (given t) → (fields : List IndexedField) → list_any (nat_eq k.field) (map (λ (f : IndexedField). f.field) fields) ≡ true → AllByRecursion (IsMergedField schema norms ms all) fields → list_any (bytes_eq t) (all_terms schema fields) ≡ true
  field_there t k some [] among each = absurd (true≢false (sym among))
  field_there t k some (f ∷ fields) among each = go (nat_eq k.field f.field) refl (field_there t k some fields) among
    where
      split : list_any (bytes_eq t) (all_terms schema (f ∷ fields)) ≡ (list_any (bytes_eq t) (terms_of schema f) || list_any (bytes_eq t) (all_terms schema fields))
      split = list_any-append (bytes_eq t) (terms_of schema f) (all_terms schema fields)

      go : (b : Bool) → nat_eq k.field f.field ≡ b → (list_any (nat_eq k.field) (map (λ (g : IndexedField). g.field) fields) ≡ true → AllByRecursion (IsMergedField schema norms ms all) fields → list_any (bytes_eq t) (all_terms schema fields) ≡ true) → (b || list_any (nat_eq k.field) (map (λ (g : IndexedField). g.field) fields)) ≡ true → list_any (bytes_eq t) (all_terms schema (f ∷ fields)) ≡ true
      go true e later a = (let same : f.field ≡ k.field = grind (arith, nat_tests) in split ∙ ap (λ b. b || list_any (bytes_eq t) (all_terms schema fields)) (term_there t k some f same each.0))
      go false e later a = split ∙ ap (λ b. list_any (bytes_eq t) (terms_of schema f) || b) (later a each.1) ∙ or_true (list_any (bytes_eq t) (terms_of schema f))

  pub terms_indexed : (fields : List IndexedField) → map (λ (f : IndexedField). f.field) fields ≡ indexed_fields schema → AllByRecursion (IsMergedField schema norms ms all) fields → AreIndexed schema analyze (live segments) fields
  terms_indexed fields names each = record {
    each_field = all_then (IsMergedField schema norms ms all) (HasPostingsOf given schema) fields field_given each;
    all = λ t some.
        (let k = living_known schema analyze few 0 num_docs 0 ms all segments t are of (subst (λ (ps : List Posting). 0 < length ps) (live_postings schema analyze t segments) some) in
        field_there t k some fields (subst (λ ns. list_any (nat_eq k.field) ns ≡ true) (sym names) (number_there schema k.field k.entry k.entry_is k.indexed)) each);
  }

  -- ---- what is refused

  -- a limit that a merged field passes is passed by the living documents
  pub limit_passed : (fault : Fault) → IsMergeRefusal fault schema norms ms all → IsSerializeRefusal fault schema norms given
  limit_passed fault (inl memory) = inl memory
  limit_passed fault (inr (limit, any)) = inr (limit, record { field = any.field; indexed = ap (λ o. option_map_or is_indexed o false) any.at ∙ any.indexed; passes = go any.passes })
    where
      there : (key : List ℕ) → merged_in any.field key ms all ≡ given (term_of_key schema any.field key)
      there key = merged_is any.field any.entry key any.at

      some : (keys : List (List ℕ)) → AllByRecursion (λ key. 0 < length (merged_in any.field key ms all)) keys → AllByRecursion (λ key. 0 < length (given (term_of_key schema any.field key))) keys
      some keys each = all_then (λ key. 0 < length (merged_in any.field key ms all)) (λ key. 0 < length (given (term_of_key schema any.field key))) keys (λ key has. subst (λ (ps : List Posting). 0 < length ps) (there key) has) each

      tokens : (keys : List (List ℕ)) → sum_by (λ key. sum_by (λ (p : Posting). p.count) (merged_in any.field key ms all)) keys ≡ sum_by (λ key. sum_by (λ (p : Posting). p.count) (given (term_of_key schema any.field key))) keys
      tokens [] = refl
      tokens (key ∷ keys) =
          let here = ap (sum_by (λ (p : Posting). p.count)) (there key) in
          let later = tokens keys in
          let a = sum_by-cons (λ k. sum_by (λ (p : Posting). p.count) (merged_in any.field k ms all)) key keys in
          let b = sum_by-cons (λ k. sum_by (λ (p : Posting). p.count) (given (term_of_key schema any.field k))) key keys in
          omega arith

      many : (keys : List (List ℕ)) → (4294967295 < length keys) ⊎ (2 ^ 64 ≤ sum_by (λ key. sum_by (λ (p : Posting). p.count) (merged_in any.field key ms all)) keys) → (4294967295 < length keys) ⊎ (2 ^ 64 ≤ sum_by (λ key. sum_by (λ (p : Posting). p.count) (given (term_of_key schema any.field key))) keys)
      many keys (inl long) = inl long
      many keys (inr past) = inr (subst (λ n. 2 ^ 64 ≤ n) (tokens keys) past)

      go : FieldPasses (option_of_key any.entry) (field_ids norms any.field) (λ key. merged_in any.field key ms all) → FieldPasses (λ key. option_of_term schema (term_of_key schema any.field key)) (field_ids norms any.field) (λ key. given (term_of_key schema any.field key))
      go (inl (key, term)) = inl (key, subst (TermPasses (option_of_term schema (term_of_key schema any.field key)) (field_ids norms any.field)) (there key) (subst (λ o. TermPasses o (field_ids norms any.field) (merged_in any.field key ms all)) (sym (option_is schema num_docs norms ms all few are any.field any.entry key any.at)) term))
      go (inr t) = inr (record { keys = t.keys; ascend = t.ascend; each_key = some t.keys t.each_key; many = many t.keys t.many })
