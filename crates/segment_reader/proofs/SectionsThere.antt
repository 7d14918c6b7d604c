-- Sections as they are defined are read.
use Rattle.std.proofs.Common.{[], Bool, List, ap, append-nil, arith, drop, flat_map, length, length-append, map, refl, subst, sym, ◌+◌, ◌-◌, ◌<◌, ◌≡◌, ◌≤◌, ◌∙◌, ◌∷◌, ◌^◌, ℕ}
use Rattle.std.proofs.lemmas.List.{length-map}
use Rattle.std.specs.List.{AllByRecursion}
use Rattle.std.specs.Prelude.{slice_get}
use Rattle.definitions.specs.Postings.{Posting}
use Rattle.definitions.specs.Schema.{IndexRecordOption, Schema, has_positions}
use Rattle.layouts.specs.Deltas.{IsAscendingFrom}
use Rattle.layouts.specs.InvertedIndexes.{AreSections, IndexedField, IndexedTerm, IsField, IsPosting, IsTerm, field_ids, field_terms, indexed_fields, lengths_of, option_of_term, term_of_key, Sections}
use Rattle.layouts.specs.TermSections.{FieldTerms, TermsAscend, Told, block_size, field_terms_bytes}
use Rattle.segment_reader.proofs.TermBytes.{FieldFits, all_positions, all_postings, fields_entry, fields_positions, fields_postings, fields_stand, positions_of, postings_of, same_start, told_of}
use Rattle.segment_reader.specs.TermPlaces.{IsSection, TermFits, fields_end, fields_start}

-- ---- the numbers of terms fit

-- no more documents than ascend below a bound
few_docs : (positions : Bool) (n next : ℕ) (ps : List Posting) → IsAscendingFrom next (map (λ (p : Posting). p.doc) ps) → AllByRecursion (IsPosting positions n) ps → length ps ≤ n - next
few_docs positions n next [] ascending each = omega arith
few_docs positions n next (p ∷ ps) ascending each =
    let later = few_docs positions n (p.doc + 1) ps ascending.1 each.1 in
    let order = ascending.0 in
    let within = each.0.within in
    omega (arith, later, order, within)

entry_fits : (option : IndexRecordOption) (n : ℕ) (ids : List ℕ) (x : IndexedTerm) → n < 2 ^ 32 → length x.postings_bytes < 2 ^ 63 → length x.positions_bytes < 2 ^ 63 → IsTerm option n ids x → TermFits (lengths_of x).1
entry_fits option n ids x few first second term =
    let docs = few_docs (has_positions option) n 0 x.postings term.postings_are.posted.ascending term.each_posting in
    record { has_documents = term.has_postings; doc_freq_fits = omega (arith, few, docs); postings_fit = omega (arith, first); positions_fit = omega (arith, second) }

pub entries_fit : (option : List ℕ → IndexRecordOption) (n : ℕ) (ids : List ℕ) (xs : List IndexedTerm) → n < 2 ^ 32 → length (postings_of xs) < 2 ^ 63 → length (positions_of xs) < 2 ^ 63 → AllByRecursion (λ (x : IndexedTerm). IsTerm (option x.key) n ids x) xs → AllByRecursion (λ (t : Told). TermFits t.1) (told_of xs)
entries_fit option n ids [] few first second each = tt
entries_fit option n ids (x ∷ xs) few first second each =
    let a = length-append x.postings_bytes (postings_of xs) in
    let b = length-append x.positions_bytes (positions_of xs) in
    (entry_fits (option x.key) n ids x few (omega (arith, first, a)) (omega (arith, second, b)) each.0, entries_fit option n ids xs few (omega (arith, first, a)) (omega (arith, second, b)) each.1)

pub keys_told : (xs : List IndexedTerm) → map (λ (t : Told). t.0) (told_of xs) ≡ map (λ (x : IndexedTerm). x.key) xs
keys_told [] = refl
keys_told (x ∷ xs) = ap (λ keys. x.key ∷ keys) (keys_told xs)

pub fields_fit : (schema : Schema) (n : ℕ) (norms : List (ℕ × List ℕ)) (fields : List IndexedField) → n < 2 ^ 32 → length (all_postings fields) < 2 ^ 63 → length (all_positions fields) < 2 ^ 63 → AllByRecursion (IsField schema n norms) fields → AllByRecursion FieldFits (map field_terms fields)
fields_fit schema n norms [] few first second each = tt
fields_fit schema n norms (f ∷ fields) few first second each =
    let a = length-append (postings_of f.terms) (all_postings fields) in
    let b = length-append (positions_of f.terms) (all_positions fields) in
    let here : FieldFits (field_terms f) = record {
      ascend = subst TermsAscend (sym (keys_told f.terms)) each.0.ascend;
      few = (let many = length-map f.terms lengths_of in let fit = each.0.terms_fit in omega (arith, many, fit));
      tokens_fit = each.0.tokens_fit;
      fit = entries_fit (λ key. option_of_term schema (term_of_key schema f.field key)) n (field_ids norms f.field) f.terms few (omega (arith, first, a)) (omega (arith, second, b)) each.0.each_term;
    } in
    (here, fields_fit schema n norms fields few (omega (arith, first, a)) (omega (arith, second, b)) each.1)

-- ---- the whole section

pub numbers_told : (fields : List IndexedField) → map (λ (f : FieldTerms). f.field) (map field_terms fields) ≡ map (λ (f : IndexedField). f.field) fields
numbers_told [] = refl
numbers_told (f ∷ fields) = ap (λ ns. f.field ∷ ns) (numbers_told fields)

-- the sections that are defined are read
pub sections_there : (schema : Schema) (num_docs : ℕ) (norms : List (ℕ × List ℕ)) (fields : List IndexedField) (s : Sections) → length s.terms < 2 ^ 63 → length s.postings < 2 ^ 63 → length s.positions < 2 ^ 63 → num_docs < 2 ^ 32 → (are : AreSections schema num_docs norms fields s.terms s.postings s.positions) → IsSection are.terms_are.0 s.terms (length s.postings) (length s.positions) (indexed_fields schema) (map field_terms fields)
sections_there schema num_docs norms fields s short first second few are =
    let fs = map field_terms fields in
    let size = block_size are.terms_are.0 in
    let spelled = are.terms_are.1 in
    let bytes = flat_map (field_terms_bytes size) fs in
    let postings : length s.postings ≡ length (all_postings fields) = ap length are.postings_are in
    let positions : length s.positions ≡ length (all_positions fields) = ap length are.positions_are in
    let long : length s.terms ≡ 1 + length bytes = (let whole = ap length spelled in omega (arith, whole)) in
    let p = fields_postings size fields_start fields in
    let q = fields_positions size fields_start fields in
    let there = ap (drop 1) spelled ∙ sym (append-nil bytes) in
    record {
      kind = ap (λ xs. slice_get xs 0) spelled;
      names = numbers_told fields ∙ are.names;
      fields = fields_stand size s.terms fields_start (length s.postings) (length s.positions) fs [] short (omega (arith, long)) (fields_fit schema num_docs norms fields few (omega (arith, first, postings)) (omega (arith, second, positions)) are.each_field) there (omega (arith, p, postings)) (omega (arith, q, positions));
      ends = same_start (fields_end size fields_start fs) (record { entry = length s.terms; postings = length s.postings; positions = length s.positions }) (omega (arith, fields_entry size fields_start fs, long)) (omega (arith, p, postings)) (omega (arith, q, positions));
    }
