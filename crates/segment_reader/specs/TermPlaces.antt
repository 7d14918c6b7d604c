-- Terms as they stand in their section, one after another.
use Rattle.std.specs.Prelude.{[], ⊤, ◌++◌, ◌+◌, ◌<◌, ◌^◌, ◌∷◌, ◌≡◌, ◌≤◌, Bool, List, Some, drop, length, map, slice_get, ℕ}
use Rattle.std.specs.List.{AllByRecursion}
use Rattle.definitions.specs.NumberCodes.{u32_bytes, u64_bytes, vint_bytes}
use Rattle.front_coding.specs.BlockPlaces.{positions_end, postings_end, starts_from}
use Rattle.front_coding.specs.declared.term_starts.TermStart.{TermStart}
use Rattle.layouts.specs.TermSections.{FieldTerms, TermLengths, TermsAscend, Told, block_size, coded_terms, kind_byte}

-- where each block of terms begins, and where the last of them ends
abbrev pub starts_of : ℕ → TermStart → List Told → List TermStart
starts_of size at ts = starts_from size 0 [] at ts

abbrev pub end_of : ℕ → TermStart → List Told → TermStart
end_of size at ts = record { entry = at.entry + length (coded_terms size ts); postings = postings_end at.postings ts; positions = positions_end at.positions ts }

-- a term that a document has, and whose numbers fit
pub record TermFits (l : TermLengths) : Type 0 where
  pub has_documents : 0 < l.doc_freq
  pub doc_freq_fits : l.doc_freq < 2 ^ 32
  pub postings_fit : l.postings_len < 2 ^ 64
  pub positions_fit : l.positions_len < 2 ^ 64

-- terms in blocks of `size`, which ascend and whose postings end within their sections
pub record AreTerms (size : ℕ) (section : List ℕ) (at : TermStart) (postings_len positions_len : ℕ) (ts : List Told) (rest : List ℕ) : Type 0 where
  pub spelled : drop at.entry section ≡ coded_terms size ts ++ rest
  pub ascend : TermsAscend (map (λ t. t.0) ts)
  pub fit : AllByRecursion (λ t. TermFits t.1) ts
  pub postings_end : (end_of size at ts).postings ≤ postings_len
  pub positions_end : (end_of size at ts).positions ≤ positions_len

-- terms that were read, up to an end
pub record AreRead (size : ℕ) (section : List ℕ) (at : TermStart) (postings_len positions_len : ℕ) (ts : List Told) (end : TermStart) : Type 0 where
  pub terms : AreTerms size section at postings_len positions_len ts (drop end.entry section)
  pub end_is : end ≡ end_of size at ts
  pub within : end.entry ≤ length section

-- a term's ranges end within the sections, at these
pub record EndsWithin (at : TermStart) (l : TermLengths) (postings_len positions_len : ℕ) (end : TermStart) : Type 0 where
  pub fits : TermFits l
  pub postings_are : end.postings ≡ at.postings + l.postings_len
  pub positions_are : end.positions ≡ at.positions + l.positions_len
  pub postings_end : end.postings ≤ postings_len
  pub positions_end : end.positions ≤ positions_len

-- ---- fields

-- a field's number, how many tokens it has and how many terms
abbrev pub header_bytes : ℕ → ℕ → ℕ → List ℕ
header_bytes field num_tokens num_terms = u32_bytes field ++ u64_bytes num_tokens ++ vint_bytes num_terms

abbrev pub header_of : FieldTerms → List ℕ
header_of f = header_bytes f.field f.num_tokens (length f.terms)

-- where a field's terms begin, and where the field ends
abbrev pub first_in : TermStart → FieldTerms → TermStart
first_in at f = record { entry = at.entry + length (header_of f); postings = at.postings; positions = at.positions }

abbrev pub field_end : ℕ → TermStart → FieldTerms → TermStart
field_end size at f = end_of size (first_in at f) f.terms

-- a header at an offset, and where it ends
pub record IsHeader (section : List ℕ) (at field num_tokens num_terms end : ℕ) : Type 0 where
  pub spelled : drop at section ≡ header_bytes field num_tokens num_terms ++ drop end section
  pub tokens_fit : num_tokens < 2 ^ 64
  pub terms_fit : num_terms ≤ 4294967295
  pub end_is : end ≡ at + length (header_bytes field num_tokens num_terms)
  pub within : end ≤ length section

-- a field at a start, and what follows its terms
pub record IsField (size : ℕ) (section : List ℕ) (at : TermStart) (postings_len positions_len : ℕ) (f : FieldTerms) (rest : List ℕ) : Type 0 where
  pub header : IsHeader section at.entry f.field f.num_tokens (length f.terms) (first_in at f).entry
  pub terms : AreTerms size section (first_in at f) postings_len positions_len f.terms rest

-- a field that was read, up to an end
pub record IsReadField (size : ℕ) (section : List ℕ) (at : TermStart) (postings_len positions_len : ℕ) (f : FieldTerms) (end : TermStart) : Type 0 where
  pub header : IsHeader section at.entry f.field f.num_tokens (length f.terms) (first_in at f).entry
  pub read : AreRead size section (first_in at f) postings_len positions_len f.terms end

-- where the last of fields that stand one after another ends
abbrev pub fields_end : ℕ → TermStart → List FieldTerms → TermStart
fields_end size at [] = at
fields_end size at (f ∷ fs) = fields_end size (field_end size at f) fs

-- fields that stand one after another
abbrev pub AreFields : ℕ → List ℕ → TermStart → ℕ → ℕ → List FieldTerms → Type 0
AreFields size section at p q [] = ⊤
AreFields size section at p q (f ∷ fs) = IsReadField size section at p q f (field_end size at f) × AreFields size section (field_end size at f) p q fs

-- the first byte tells the kind of dictionary, and the fields begin behind it
abbrev pub fields_start : TermStart
fields_start = record { entry = 1; postings = 0; positions = 0 }

-- a section of a kind with these fields, whose postings and positions have these numbers of bytes
pub record IsSection (front_coded : Bool) (section : List ℕ) (postings_len positions_len : ℕ) (numbers : List ℕ) (fs : List FieldTerms) : Type 0 where
  pub kind : slice_get section 0 ≡ Some (kind_byte front_coded)
  pub names : map (λ (f : FieldTerms). f.field) fs ≡ numbers
  pub fields : AreFields (block_size front_coded) section fields_start postings_len positions_len fs
  pub ends : fields_end (block_size front_coded) fields_start fs ≡ record { entry = length section; postings = postings_len; positions = positions_len }
