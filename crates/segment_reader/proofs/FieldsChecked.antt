-- Fields as they are defined pass their checks.
use Rattle.std.proofs.Common.{[], Bool, List, ap, append_assoc, arith, drop, length, map, refl, subst, sym, take, true, ◌++◌, ◌+◌, ◌-◌, ◌<◌, ◌≡◌, ◌≤◌, ◌∙◌, ◌∷◌, ◌^◌, ℕ}
use Rattle.std.proofs.Math.Seq.{take-append_seam}
use Rattle.std.specs.List.{AllByRecursion}
use Rattle.std.specs.Prelude.{slice_range}
use Rattle.definitions.specs.Schema.{Schema, max_fields}
use Rattle.front_coding.specs.declared.term_starts.TermStart.{TermStart}
use Rattle.layouts.specs.InvertedIndexes as segments
use Rattle.layouts.specs.InvertedIndexes.{AreSections, IndexedField, IndexedTerm, IsTerm, field_ids, field_terms, num_tokens, option_of_term, term_of_key, Sections}
use Rattle.layouts.specs.TermSections.{block_size}
use Rattle.segment_definitions.specs.Keys.{AreKeyed, IsKeyed, is_key_of}
use Rattle.segment_reader.proofs.KindsKnown.{IsKind, kinds_known, same_key, same_option}
use Rattle.segment_reader.proofs.SectionsThere.{sections_there}
use Rattle.segment_reader.proofs.ShapesKept.{placed_there}
use Rattle.segment_reader.proofs.TermBytes.{all_positions, all_postings, end_positions, end_postings, positions_of, postings_of, rest_there, told_of}
use Rattle.segment_reader.specs.CheckedTerms.{AreCheckedFields, AreTermsAt, IsCheckedField, IsCheckedTerm}
use Rattle.segment_reader.specs.Dictionaries.{placed_by}
use Rattle.segment_reader.specs.FieldKinds.{kinds_of, option_in, shown}
use Rattle.segment_reader.specs.TermPlaces.{AreFields, IsReadField, field_end, fields_start, first_in}
use Rattle.segment_reader.specs.ToldFields.{AreKept, AreTold}
use Rattle.segment_reader.specs.declared.field_index.FieldIndex.{FieldIndex}
use Rattle.segment_reader.specs.declared.field_kind.FieldKind.{FieldKind}

-- ---- terms

-- terms with their bytes from an offset of each section on
pub record Standing (s : Sections) (p q : ℕ) (xs : List IndexedTerm) (postings positions : List ℕ) : Type 0 where
  pub postings_are : drop p s.postings ≡ postings_of xs ++ postings
  pub positions_are : drop q s.positions ≡ positions_of xs ++ positions

range_there : (n : ℕ) (xs a b : List ℕ) → drop n xs ≡ a ++ b → a ≡ slice_range xs n (n + length a)
range_there n xs a b is = sym (let count : n + length a - n ≡ length a = omega arith in ap (λ k. take k (drop n xs)) count ∙ ap (take (length a)) is ∙ take-append_seam a b)

pub terms_at_offsets : (s : Sections) (p q : ℕ) (xs : List IndexedTerm) (postings positions : List ℕ) → Standing s p q xs postings positions → AreTermsAt s (placed_by p q (told_of xs)) xs
terms_at_offsets s p q [] postings positions standing = tt
terms_at_offsets s p q (x ∷ xs) postings positions standing =
    let first : drop p s.postings ≡ x.postings_bytes ++ (postings_of xs ++ postings) = standing.postings_are ∙ append_assoc x.postings_bytes (postings_of xs) postings in
    let second : drop q s.positions ≡ x.positions_bytes ++ (positions_of xs ++ positions) = standing.positions_are ∙ append_assoc x.positions_bytes (positions_of xs) positions in
    let a = range_there p s.postings x.postings_bytes (postings_of xs ++ postings) first in
    let b = range_there q s.positions x.positions_bytes (positions_of xs ++ positions) second in (
      ap (λ bs. record { key = x.key; postings = x.postings; postings_bytes = bs; positions_bytes = x.positions_bytes }) a ∙ ap (λ bs. record { key = x.key; postings = x.postings; postings_bytes = slice_range s.postings p (p + length x.postings_bytes); positions_bytes = bs }) b,
      refl,
      terms_at_offsets s (p + length x.postings_bytes) (q + length x.positions_bytes) xs postings positions (record { postings_are = rest_there p s.postings x.postings_bytes (postings_of xs ++ postings) first; positions_are = rest_there q s.positions x.positions_bytes (positions_of xs ++ positions) second }),
    )

-- ---- fields

-- fields with their bytes from an offset of each section to its end
pub record FieldsStand (s : Sections) (at : TermStart) (fields : List IndexedField) : Type 0 where
  pub postings_are : drop at.postings s.postings ≡ all_postings fields
  pub positions_are : drop at.positions s.positions ≡ all_positions fields

-- the terms of the first field
pub first_stands : (s : Sections) (at : TermStart) (f : IndexedField) (fields : List IndexedField) → FieldsStand s at (f ∷ fields) → Standing s at.postings at.positions f.terms (all_postings fields) (all_positions fields)
first_stands s at f fields stand = record { postings_are = stand.postings_are; positions_are = stand.positions_are }

-- the fields behind it
pub fields_behind : (size : ℕ) (s : Sections) (at : TermStart) (f : IndexedField) (fields : List IndexedField) → FieldsStand s at (f ∷ fields) → FieldsStand s (field_end size at (field_terms f)) fields
fields_behind size s at f fields stand = record {
  postings_are = ap (λ k. drop k s.postings) (end_postings size (first_in at (field_terms f)) f.terms) ∙ rest_there at.postings s.postings (postings_of f.terms) (all_postings fields) stand.postings_are;
  positions_are = ap (λ k. drop k s.positions) (end_positions size (first_in at (field_terms f)) f.terms) ∙ rest_there at.positions s.positions (positions_of f.terms) (all_positions fields) stand.positions_are;
}

-- all fields stand from the start on
pub fields_whole : (schema : Schema) (num_docs : ℕ) (norms : List (ℕ × List ℕ)) (fields : List IndexedField) (s : Sections) → AreSections schema num_docs norms fields s.terms s.postings s.positions → FieldsStand s fields_start fields
fields_whole schema num_docs norms fields s are = record { postings_are = are.postings_are; positions_are = are.positions_are }

-- what is recorded of a term of a field of this kind
option_moved : (schema : Schema) (k : FieldKind) (f : ℕ) (x : IndexedTerm) → IsKind schema k → k.field ≡ f → option_of_term schema (term_of_key schema f x.key) ≡ option_in k x.key
option_moved schema k f x known same = sym (same_option schema k x.key known ∙ ap (λ n. option_of_term schema (term_of_key schema n x.key)) same)

-- terms of a field in their layout, with the bytes of its values
terms_checked : (schema : Schema) (num_docs : ℕ) (norms : List (ℕ × List ℕ)) (k : FieldKind) (f : ℕ) → IsKind schema k → k.field ≡ f → (xs : List IndexedTerm) → AllByRecursion (λ (x : IndexedTerm). IsTerm (option_of_term schema (term_of_key schema f x.key)) num_docs (field_ids norms f) x) xs → AllByRecursion (λ (x : IndexedTerm). is_key_of schema f x.key ≡ true) xs → AllByRecursion (IsCheckedTerm k num_docs (field_ids norms k.field)) xs
terms_checked schema num_docs norms k f known number [] each keyed = tt
terms_checked schema num_docs norms k f known number (x ∷ xs) each keyed = (
  record {
    is_term = subst (λ n. IsTerm (option_in k x.key) num_docs (field_ids norms n) x) (sym number) (subst (λ option. IsTerm option num_docs (field_ids norms f) x) (option_moved schema k f x known number) each.0);
    keyed = same_key schema k x.key known ∙ ap (λ n. is_key_of schema n x.key) number ∙ keyed.0;
  },
  terms_checked schema num_docs norms k f known number xs each.1 keyed.1,
)

field_checked : (schema : Schema) (num_docs : ℕ) (norms : List (ℕ × List ℕ)) (kind : Bool) (s : Sections) (at end : TermStart) (f : IndexedField) (fields : List IndexedField) (i : FieldIndex) → length s.terms < 2 ^ 63 → IsKind schema i.kind → segments.IsField schema num_docs norms f → IsKeyed schema f → IsReadField (block_size kind) s.terms at (length s.postings) (length s.positions) (field_terms f) end → FieldsStand s at (f ∷ fields) → i.kind.field ≡ f.field → i.num_tokens ≡ num_tokens f → AreKept kind (first_in at (field_terms f)) (told_of f.terms) i → IsCheckedField s num_docs (field_ids norms i.kind.field) i f.terms
field_checked schema num_docs norms kind s at end f fields i short known is keyed read stand number tokens kept =
    let there = terms_at_offsets s at.postings at.positions f.terms (all_postings fields) (all_positions fields) (first_stands s at f fields stand) in
    let placed = placed_there kind s.terms (first_in at (field_terms f)) (length s.postings) (length s.positions) (told_of f.terms) (drop end.entry s.terms) i.shape short kept.shape read.read.terms in
    record {
      terms_are = subst (λ ts. AreTermsAt s ts f.terms) (sym placed) there;
      each_term = terms_checked schema num_docs norms i.kind f.field known number f.terms is.each_term keyed;
      tokens_are = sym tokens;
    }

checked_from : (schema : Schema) (num_docs : ℕ) (norms : List (ℕ × List ℕ)) (kind : Bool) (s : Sections) (at : TermStart) (fields : List IndexedField) (told : List FieldIndex) → length s.terms < 2 ^ 63 → AllByRecursion (IsKind schema) (map (λ (i : FieldIndex). i.kind) told) → AllByRecursion (segments.IsField schema num_docs norms) fields → AreKeyed schema fields → AreFields (block_size kind) s.terms at (length s.postings) (length s.positions) (map field_terms fields) → FieldsStand s at fields → AreTold kind at (map field_terms fields) told → AreCheckedFields s num_docs norms told (map (λ (f : IndexedField). f.terms) fields)
checked_from schema num_docs norms kind s at [] [] short known each keyed read stand are = tt
checked_from schema num_docs norms kind s at [] (i ∷ is) short known each keyed read stand are = absurd are
checked_from schema num_docs norms kind s at (f ∷ fields) [] short known each keyed read stand are = absurd are
checked_from schema num_docs norms kind s at (f ∷ fields) (i ∷ is) short known each keyed read stand are = (
  field_checked schema num_docs norms kind s at (field_end (block_size kind) at (field_terms f)) f fields i short known.0 each.0 keyed.0 read.0 stand are.0 are.1 are.2,
  checked_from schema num_docs norms kind s (field_end (block_size kind) at (field_terms f)) fields is short known.1 each.1 keyed.1 read.1 (fields_behind (block_size kind) s at f fields stand) are.3,
)

-- fields of the sections that are defined are checked fields
pub fields_checked : (schema : Schema) (num_docs : ℕ) (norms : List (ℕ × List ℕ)) (fields : List IndexedField) (s : Sections) (told : List FieldIndex) → length s.terms < 2 ^ 63 → length s.postings < 2 ^ 63 → length s.positions < 2 ^ 63 → num_docs < 2 ^ 32 → length schema ≤ max_fields → (are : AreSections schema num_docs norms fields s.terms s.postings s.positions) → AreKeyed schema fields → AreTold are.terms_are.0 fields_start (map field_terms fields) told → map shown (map (λ (i : FieldIndex). i.kind) told) ≡ kinds_of schema → AreCheckedFields s num_docs norms told (map (λ (f : IndexedField). f.terms) fields)
fields_checked schema num_docs norms fields s told short first second few small are keyed told_are kinds =
    let there = sections_there schema num_docs norms fields s short first second few are in
    checked_from schema num_docs norms are.terms_are.0 s fields_start fields told short (kinds_known schema (map (λ (i : FieldIndex). i.kind) told) small kinds) are.each_field keyed there.fields (fields_whole schema num_docs norms fields s are) told_are
