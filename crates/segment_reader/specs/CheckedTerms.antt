-- Terms as their bytes stand in the sections.
use Rattle.std.specs.Prelude.{[], ⊤, ◌<◌, ◌^◌, ◌∷◌, ◌≡◌, ◌≤◌, List, length, slice_range, sum_by, true, ℕ}
use Rattle.std.specs.List.{AllByRecursion}
use Rattle.definitions.specs.Postings.{Posting}
use Rattle.layouts.specs.InvertedIndexes.{IndexedField, IndexedTerm, IsTerm, field_ids, Sections}
use Rattle.segment_definitions.specs.Keys.{is_key}
use Rattle.segment_reader.specs.Dictionaries.{Placed}
use Rattle.segment_reader.specs.FieldKinds.{option_in}
use Rattle.segment_reader.specs.KeptTerms.{AreShaped, placed_terms}
use Rattle.segment_reader.specs.declared.field_index.FieldIndex.{FieldIndex}
use Rattle.segment_reader.specs.declared.field_kind.FieldKind.{FieldKind}
use Rattle.segment_reader.specs.declared.section_bytes.SectionBytes.{SectionBytes}
use Rattle.terms.specs.Kinds.{kind_of}

-- the bytes of the sections that the code holds
abbrev pub bytes_of : SectionBytes → Sections
bytes_of s = record { terms = s.terms.now; postings = s.postings.now; positions = s.positions.now }

-- the postings and positions of a term end within their sections
pub record IsWithin (s : Sections) (t : Placed) : Type 0 where
  pub docs_fit : t.1.doc_freq < 2 ^ 32
  pub postings_order : t.1.postings_range.start ≤ t.1.postings_range.end
  pub positions_order : t.1.positions_range.start ≤ t.1.positions_range.end
  pub postings_end : t.1.postings_range.end ≤ length s.postings
  pub positions_end : t.1.positions_range.end ≤ length s.positions

-- a term with these postings
abbrev pub term_with : Sections → Placed → List Posting → IndexedTerm
term_with s t ps = record { key = t.0; postings = ps; postings_bytes = slice_range s.postings t.1.postings_range.start t.1.postings_range.end; positions_bytes = slice_range s.positions t.1.positions_range.start t.1.positions_range.end }

-- a term with as many postings as are told of it
abbrev pub IsTermAt : Sections → Placed → IndexedTerm → Type 0
IsTermAt s t x = (x ≡ term_with s t x.postings) × (length x.postings ≡ t.1.doc_freq)

-- terms that stand at these offsets
abbrev pub AreTermsAt : Sections → List Placed → List IndexedTerm → Type 0
AreTermsAt s [] [] = ⊤
AreTermsAt s (t ∷ ts) (x ∷ xs) = (x ≡ term_with s t x.postings) × (length x.postings ≡ t.1.doc_freq) × AreTermsAt s ts xs
AreTermsAt s [] (x ∷ xs) = ⊥
AreTermsAt s (t ∷ ts) [] = ⊥

-- how many tokens terms have
abbrev pub tokens_of : List IndexedTerm → ℕ
tokens_of xs = sum_by (λ (x : IndexedTerm). sum_by (λ p. p.count) x.postings) xs

-- a term of a field in its layout, with the value bytes of a value of the field
pub record IsCheckedTerm (k : FieldKind) (num_docs : ℕ) (ids : List ℕ) (x : IndexedTerm) : Type 0 where
  pub is_term : IsTerm (option_in k x.key) num_docs ids x
  pub keyed : is_key (kind_of k.value_type) x.key ≡ true

-- the terms of a field, each in its layout
pub record IsCheckedField (s : Sections) (num_docs : ℕ) (ids : List ℕ) (i : FieldIndex) (xs : List IndexedTerm) : Type 0 where
  pub terms_are : AreTermsAt s (placed_terms s.terms i.shape) xs
  pub each_term : AllByRecursion (IsCheckedTerm i.kind num_docs ids) xs
  pub tokens_are : tokens_of xs ≡ i.num_tokens

-- what a check of a field begins with: its terms stand there, and end within their sections
pub record IsChecking (s : Sections) (i : FieldIndex) : Type 0 where
  pub shaped : AreShaped s.terms i.shape
  pub within : AllByRecursion (IsWithin s) (placed_terms s.terms i.shape)

-- the terms of several fields, whose lengths are given
abbrev pub AreCheckedFields : Sections → ℕ → List (ℕ × List ℕ) → List FieldIndex → List (List IndexedTerm) → Type 0
AreCheckedFields s num_docs norms [] [] = ⊤
AreCheckedFields s num_docs norms (i ∷ is) (xs ∷ xss) = IsCheckedField s num_docs (field_ids norms i.kind.field) i xs × AreCheckedFields s num_docs norms is xss
AreCheckedFields s num_docs norms [] (xs ∷ xss) = ⊥
AreCheckedFields s num_docs norms (i ∷ is) [] = ⊥

-- fields with these terms
abbrev pub fields_with : List FieldIndex → List (List IndexedTerm) → List IndexedField
fields_with [] xss = []
fields_with (i ∷ is) [] = []
fields_with (i ∷ is) (xs ∷ xss) = record { field = i.kind.field; terms = xs } ∷ fields_with is xss
