-- A reader, of what was read and checked.
use Rattle.std.proofs.Common.{[], Bool, List, ap, arith, drop, false, length, map, refl, subst, sym, ◌<◌, ◌≡◌, ◌≤◌, ◌∙◌, ◌∷◌, ◌^◌, ℕ}
use Rattle.std.proofs.lemmas.Grind.{merely}
use Rattle.std.specs.List.{AllByRecursion}
use Rattle.definitions.specs.Postings.{terminated}
use Rattle.definitions.specs.Schema.{Schema, max_fields}
use Rattle.front_coding.specs.declared.term_starts.TermStart.{TermStart}
use Rattle.layouts.specs.InvertedIndexes.{AreSections, IndexedField, IndexedTerm, field_terms, indexed_fields, Sections}
use Rattle.layouts.specs.TermSections.{FieldTerms, block_size}
use Rattle.segment_definitions.specs.Keys.{AreKeyed}
use Rattle.segment_reader.proofs.FieldsChecked.{fields_checked}
use Rattle.segment_reader.proofs.KindsKnown.{fields_small, kind_numbers}
use Rattle.segment_reader.proofs.OneReading.{same_fields, same_kind}
use Rattle.segment_reader.proofs.SectionsRead.{keys_read, sections_read, told_read}
use Rattle.segment_reader.proofs.SectionsThere.{sections_there}
use Rattle.segment_reader.proofs.ShapesKept.{all_within, placed_there, shaped_there}
use Rattle.segment_reader.specs.CheckedTerms.{AreCheckedFields, IsChecking, IsWithin, fields_with}
use Rattle.segment_reader.specs.FieldKinds.{kinds_of, shown}
use Rattle.segment_reader.specs.Readers.{Contents, IsReader}
use Rattle.segment_reader.specs.TermPlaces.{AreFields, IsSection, field_end, fields_start, first_in}
use Rattle.segment_reader.specs.ToldFields.{AreTold}
use Rattle.segment_reader.specs.declared.field_index.FieldIndex.{FieldIndex}
use Rattle.segment_reader.specs.declared.field_kind.FieldKind.{FieldKind}

-- ---- terms end within their sections

pub told_checking : (kind : Bool) (s : Sections) (at : TermStart) (fs : List FieldTerms) (told : List FieldIndex) → length s.terms < 2 ^ 63 → length s.postings < 2 ^ 63 → length s.positions < 2 ^ 63 → AreFields (block_size kind) s.terms at (length s.postings) (length s.positions) fs → AreTold kind at fs told → AllByRecursion (λ (i : FieldIndex). ∥ IsChecking s i ∥₁) told
told_checking kind s at [] [] short a b fields are = tt
told_checking kind s at [] (i ∷ is) short a b fields are = absurd are
told_checking kind s at (f ∷ fs) [] short a b fields are = absurd are
told_checking kind s at (f ∷ fs) (i ∷ is) short a b fields are =
    let first = first_in at f in
    let end = field_end (block_size kind) at f in
    let terms = fields.0.read.terms in
    let placed = placed_there kind s.terms first (length s.postings) (length s.positions) f.terms (drop end.entry s.terms) i.shape short are.2.shape terms in
    let checking : IsChecking s i = record {
      shaped = shaped_there kind s.terms first (length s.postings) (length s.positions) f.terms (drop end.entry s.terms) i.shape short are.2.shape terms a b;
      within = subst (AllByRecursion (IsWithin s)) (sym placed) (all_within s first.postings first.positions f.terms terms.postings_end terms.positions_end terms.fit);
    } in
    (merely checking, told_checking kind s end fs is short a b fields.1 are.3)

-- ---- what was read

pub record Made (kind : Bool) (schema : Schema) (n : ℕ) (s : Sections) (fs : List FieldTerms) (told : List FieldIndex) : Type 0 where
  pub few : length schema ≤ max_fields
  pub docs_few : n ≤ 2147483647
  pub terms_short : length s.terms < 2 ^ 63
  pub postings_short : length s.postings < 2 ^ 63
  pub positions_short : length s.positions < 2 ^ 63
  pub section : IsSection kind s.terms (length s.postings) (length s.positions) (indexed_fields schema) fs
  pub told_are : AreTold kind fields_start fs told
  pub kinds : map shown (map (λ (i : FieldIndex). i.kind) told) ≡ kinds_of schema

fields_are : (kind : Bool) (schema : Schema) (n : ℕ) (norms : List (ℕ × List ℕ)) (s : Sections) (fs : List FieldTerms) (told : List FieldIndex) (fields : List IndexedField) → Made kind schema n s fs told → AreSections schema n norms fields s.terms s.postings s.positions → fs ≡ map field_terms fields
fields_are kind schema n norms s fs told fields made are =
    let docs = made.docs_few in
    same_fields s.terms (length s.postings) (length s.positions) (indexed_fields schema) fs (map field_terms fields) made.terms_short (fields_small schema made.few) made.section (sections_there schema n norms fields s made.terms_short made.postings_short made.positions_short (omega (arith, docs)) are)

kind_is : (kind : Bool) (schema : Schema) (n : ℕ) (norms : List (ℕ × List ℕ)) (s : Sections) (fs : List FieldTerms) (told : List FieldIndex) (fields : List IndexedField) → Made kind schema n s fs told → (are : AreSections schema n norms fields s.terms s.postings s.positions) → kind ≡ are.terms_are.0
kind_is kind schema n norms s fs told fields made are =
    let docs = made.docs_few in
    same_kind kind are.terms_are.0 s.terms (length s.postings) (length s.positions) (indexed_fields schema) (indexed_fields schema) fs (map field_terms fields) made.section (sections_there schema n norms fields s made.terms_short made.postings_short made.positions_short (omega (arith, docs)) are)

told_for : (kind : Bool) (schema : Schema) (n : ℕ) (norms : List (ℕ × List ℕ)) (s : Sections) (fs : List FieldTerms) (told : List FieldIndex) (fields : List IndexedField) → Made kind schema n s fs told → (are : AreSections schema n norms fields s.terms s.postings s.positions) → AreTold are.terms_are.0 fields_start (map field_terms fields) told
told_for kind schema n norms s fs told fields made are = subst (λ k. AreTold k fields_start (map field_terms fields) told) (kind_is kind schema n norms s fs told fields made are) (subst (λ gs. AreTold kind fields_start gs told) (fields_are kind schema n norms s fs told fields made are) made.told_are)

pub stands_for : (kind : Bool) (schema : Schema) (n : ℕ) (norms : List (ℕ × List ℕ)) (s : Sections) (fs : List FieldTerms) (told : List FieldIndex) (fields : List IndexedField) → Made kind schema n s fs told → AreSections schema n norms fields s.terms s.postings s.positions → IsReader schema n norms fields (record { sections = s; indexes = told })
stands_for kind schema n norms s fs told fields made are = record { schema_fits = made.few; docs_few = made.docs_few; terms_short = made.terms_short; postings_short = made.postings_short; positions_short = made.positions_short; sections = are; kinds = made.kinds; told = told_for kind schema n norms s fs told fields made are }

pub checked_for : (kind : Bool) (schema : Schema) (n : ℕ) (norms : List (ℕ × List ℕ)) (s : Sections) (fs : List FieldTerms) (told : List FieldIndex) (fields : List IndexedField) → Made kind schema n s fs told → AreSections schema n norms fields s.terms s.postings s.positions → AreKeyed schema fields → AreCheckedFields s n norms told (map (λ (f : IndexedField). f.terms) fields)
checked_for kind schema n norms s fs told fields made are keyed =
    let docs = made.docs_few in
    fields_checked schema n norms fields s told made.terms_short made.postings_short made.positions_short (omega (arith, docs)) made.few are keyed (told_for kind schema n norms s fs told fields made are) made.kinds

pub reader_made : (kind : Bool) (schema : Schema) (n : ℕ) (norms : List (ℕ × List ℕ)) (s : Sections) (fs : List FieldTerms) (told : List FieldIndex) (xss : List (List IndexedTerm)) → Made kind schema n s fs told → AreCheckedFields s n norms told xss → (fields : List IndexedField) × IsReader schema n norms fields (record { sections = s; indexes = told }) × AreKeyed schema fields
reader_made kind schema n norms s fs told xss made checked = (
  fields_with told xss,
  record {
    schema_fits = made.few;
    docs_few = made.docs_few;
    terms_short = made.terms_short;
    postings_short = made.postings_short;
    positions_short = made.positions_short;
    sections = sections_read kind schema n norms s fs told xss made.terms_short made.few made.section made.told_are made.kinds checked;
    kinds = made.kinds;
    told = told_read kind schema n norms s fs told xss made.terms_short made.few made.section made.told_are made.kinds checked;
  },
  keys_read schema n norms s told xss made.few made.kinds checked,
)

pub made_of : (kind : Bool) (schema : Schema) (n : ℕ) (s : Sections) (lent kinds : List FieldKind) (fs : List FieldTerms) (told : List FieldIndex) → lent ≡ kinds → map shown kinds ≡ kinds_of schema → length schema ≤ max_fields → n ≤ 2147483647 → length s.terms < 2 ^ 63 → length s.postings < 2 ^ 63 → length s.positions < 2 ^ 63 → IsSection kind s.terms (length s.postings) (length s.positions) (map (λ (k : FieldKind). k.field) lent) fs → AreTold kind fields_start fs told → map (λ (i : FieldIndex). i.kind) told ≡ lent → Made kind schema n s fs told
made_of kind schema n s lent kinds fs told same shown_are few docs a b d section are kept =
    record {
      few = few;
      docs_few = docs;
      terms_short = a;
      postings_short = b;
      positions_short = d;
      section = subst (λ ns. IsSection kind s.terms (length s.postings) (length s.positions) ns fs) (kind_numbers schema lent (ap (map shown) same ∙ shown_are)) section;
      told_are = are;
      kinds = ap (map shown) (kept ∙ same) ∙ shown_are;
    }

pub no_sections : (schema : Schema) (n : ℕ) (norms : List (ℕ × List ℕ)) (s : Sections) (lent kinds : List FieldKind) → lent ≡ kinds → map shown kinds ≡ kinds_of schema → n ≤ 2147483647 → length s.terms < 2 ^ 63 → length s.postings < 2 ^ 63 → length s.positions < 2 ^ 63 → ((kind : Bool) (fs : List FieldTerms) → IsSection kind s.terms (length s.postings) (length s.positions) (map (λ (k : FieldKind). k.field) lent) fs → ⊥) → (fields : List IndexedField) → AreSections schema n norms fields s.terms s.postings s.positions → ⊥
no_sections schema n norms s lent kinds same shown_are docs a b d none fields are =
    none are.terms_are.0 (map field_terms fields) (subst (λ ns. IsSection are.terms_are.0 s.terms (length s.postings) (length s.positions) ns (map field_terms fields)) (sym (kind_numbers schema lent (ap (map shown) same ∙ shown_are))) (sections_there schema n norms fields s a b d (omega (arith, docs)) are))

pub within_lent : (s : Sections) (lent told : List FieldIndex) → lent ≡ told → AllByRecursion (λ (i : FieldIndex). ∥ IsChecking s i ∥₁) told → AllByRecursion (λ (i : FieldIndex). ∥ IsChecking s i ∥₁) lent
within_lent s lent told same all = subst (AllByRecursion (λ (i : FieldIndex). ∥ IsChecking s i ∥₁)) (sym same) all

-- ---- sections that are known

abbrev Makes : Schema → List FieldIndex → Sections → Type 0
Makes schema indexes s = (n : ℕ) (norms : List (ℕ × List ℕ)) (fields : List IndexedField) → n ≤ terminated → AreSections schema n norms fields s.terms s.postings s.positions → IsReader schema n norms fields (record { sections = s; indexes = indexes })

-- what is made of sections that are lent is made of them
pub known_lent : (schema : Schema) (indexes : List FieldIndex) (terms postings positions lent_terms lent_postings lent_positions : List ℕ) → lent_terms ≡ terms → lent_postings ≡ postings → lent_positions ≡ positions → Makes schema indexes (record { terms = lent_terms; postings = lent_postings; positions = lent_positions }) → Makes schema indexes (record { terms = terms; postings = postings; positions = positions })
known_lent schema indexes terms postings positions lent_terms lent_postings lent_positions a b d made =
    subst (λ z. Makes schema indexes (record { terms = terms; postings = postings; positions = z })) d
    (subst (λ y. Makes schema indexes (record { terms = terms; postings = y; positions = lent_positions })) b
    (subst (λ x. Makes schema indexes (record { terms = x; postings = lent_postings; positions = lent_positions })) a made))

abbrev Reads : Schema → ℕ → List (ℕ × List ℕ) → List FieldIndex → Sections → Type 0
Reads schema n norms indexes s = (fields : List IndexedField) → AreSections schema n norms fields s.terms s.postings s.positions → IsReader schema n norms fields (record { sections = s; indexes = indexes })

-- what is read of sections that are lent is read of them
pub read_lent : (schema : Schema) (n : ℕ) (norms : List (ℕ × List ℕ)) (indexes : List FieldIndex) (terms postings positions lent_terms lent_postings lent_positions : List ℕ) → lent_terms ≡ terms → lent_postings ≡ postings → lent_positions ≡ positions → Reads schema n norms indexes (record { terms = lent_terms; postings = lent_postings; positions = lent_positions }) → Reads schema n norms indexes (record { terms = terms; postings = postings; positions = positions })
read_lent schema n norms indexes terms postings positions lent_terms lent_postings lent_positions a b d made =
    subst (λ z. Reads schema n norms indexes (record { terms = terms; postings = postings; positions = z })) d
    (subst (λ y. Reads schema n norms indexes (record { terms = terms; postings = y; positions = lent_positions })) b
    (subst (λ x. Reads schema n norms indexes (record { terms = x; postings = lent_postings; positions = lent_positions })) a made))

-- ---- no fields

pub empty_known : (terms postings positions : List ℕ) (indexes : List FieldIndex) → terms ≡ 0 ∷ [] → postings ≡ [] → positions ≡ [] → indexes ≡ [] → Contents (record { sections = record { terms = terms; postings = postings; positions = positions }; indexes = indexes })
empty_known terms postings positions indexes a b c none =
    let first = ap length a in
    let second = ap length b in
    let third = ap length c in
    record {
      schema = [];
      num_docs = 0;
      norms = [];
      fields = [];
      is_reader = record {
        schema_fits = omega arith;
        docs_few = omega arith;
        terms_short = omega (arith, first);
        postings_short = omega (arith, second);
        positions_short = omega (arith, third);
        sections = record { names = refl; each_field = tt; terms_are = (false, a); postings_are = b; positions_are = c };
        kinds = ap (λ (is : List FieldIndex). map shown (map (λ (i : FieldIndex). i.kind) is)) none;
        told = subst (AreTold false fields_start []) (sym none) tt;
      };
    }
