-- Dictionaries of the fields of an index: where the postings of each term stand in the sections.
use Rattle.std.specs.Prelude.{[], ⊤, ◌+◌, ◌==◌, ◌∷◌, ◌≡◌, ◌≤◌, List, None, Option, Some, find, flat_map, if◌then◌else◌, length, slice_range, ℕ}
use Rattle.std.specs.Option.{option_map_or}
use Rattle.layouts.specs.InvertedIndexes.{IndexedField, IndexedTerm, lengths_of, Sections}
use Rattle.segment_reader.specs.Dictionaries.{Placed, info_from}
use Rattle.segment_reader.specs.KeptTerms.{placed_terms}
use Rattle.segment_reader.specs.declared.field_index.FieldIndex.{FieldIndex}
use Rattle.segment_reader.specs.declared.term_info.TermInfo.{TermInfo}

-- terms with where their postings stand, when the first one's begin at these offsets
abbrev pub placed_from : ℕ → ℕ → List IndexedTerm → List Placed
placed_from p q [] = []
placed_from p q (t ∷ ts) = (t.key, info_from p q (lengths_of t).1) ∷ placed_from (p + length t.postings_bytes) (q + length t.positions_bytes) ts

-- how many bytes the postings of a field take, and its positions
abbrev pub postings_len : IndexedField → ℕ
postings_len f = length (flat_map (λ (t : IndexedTerm). t.postings_bytes) f.terms)

abbrev pub positions_len : IndexedField → ℕ
positions_len f = length (flat_map (λ (t : IndexedTerm). t.positions_bytes) f.terms)

-- the terms of a field by its number, when the first field's begin at these offsets; none where no field has it
abbrev pub dictionary_of : ℕ → ℕ → ℕ → List IndexedField → List Placed
dictionary_of p q field [] = []
dictionary_of p q field (f ∷ fs) = if f.field == field then placed_from p q f.terms else dictionary_of (p + postings_len f) (q + positions_len f) field fs

-- the dictionary of a field, by what is kept of its terms
abbrev pub terms_of_field : List ℕ → ℕ → List FieldIndex → List Placed
terms_of_field section field told = option_map_or (λ (i : FieldIndex). placed_terms section i.shape) (find (λ (i : FieldIndex). i.kind.field == field) told) []

-- the terms of a field by its number; none where no field has it
abbrev pub terms_in : ℕ → List IndexedField → List IndexedTerm
terms_in field [] = []
terms_in field (f ∷ fs) = if f.field == field then f.terms else terms_in field fs

-- a term's postings and positions end within sections of these numbers of bytes
pub record EndsBy (postings_len positions_len : ℕ) (info : TermInfo) : Type 0 where
  pub postings : info.postings_range.end ≤ postings_len
  pub positions : info.positions_range.end ≤ positions_len

-- a term's postings and positions stand there
pub record StandsAt (s : Sections) (info : TermInfo) (t : IndexedTerm) : Type 0 where
  pub docs : info.doc_freq ≡ length t.postings
  pub postings : slice_range s.postings info.postings_range.start info.postings_range.end ≡ t.postings_bytes
  pub positions : slice_range s.positions info.positions_range.start info.positions_range.end ≡ t.positions_bytes

-- where a term stands, if there is one
abbrev pub IsFound : Sections → Option TermInfo → Option IndexedTerm → Type 0
IsFound s None None = ⊤
IsFound s None (Some t) = ⊥
IsFound s (Some info) None = ⊥
IsFound s (Some info) (Some t) = StandsAt s info t
