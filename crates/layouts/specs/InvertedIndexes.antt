-- The three sections of a segment that tell of terms: the terms themselves, their postings, and their positions.
use Rattle.std.specs.Prelude.{[], ◌<◌, ◌^◌, ◌≡◌, ◌≤◌, Bool, List, bytes_eq, false, filter, flat_map, if◌then◌else◌, length, map, slice_get, sum_by, true, ℕ}
use Rattle.std.specs.List.{AllByRecursion, enumerate_from, list_any}
use Rattle.std.specs.Option.{option_map_or}
use Rattle.definitions.specs.Analyzers.{Analyzer}
use Rattle.definitions.specs.Postings.{Posting, postings}
use Rattle.definitions.specs.Schema.{IndexRecordOption, Schema, basic, has_positions, is_indexed}
use Rattle.definitions.specs.Scoring.{DontFall}
use Rattle.definitions.specs.Terms.{field_of, is_text_term, term_bytes}
use Rattle.definitions.specs.Values.{Document}
use Rattle.layouts.specs.FieldNorms.{ids_of}
use Rattle.layouts.specs.Positions.{ArePositions, position_numbers}
use Rattle.layouts.specs.TermPostings.{AreTermPostings}
use Rattle.layouts.specs.TermSections.{AreSpelled, FieldTerms, TermLengths, TermsAscend}

-- the bytes of the sections of terms, postings and positions
pub record Sections : Type 0 where
  pub terms : List ℕ
  pub postings : List ℕ
  pub positions : List ℕ

-- a term of a field by its value bytes, its postings, and the bytes of these and of their positions
pub record IndexedTerm : Type 0 where
  pub key : List ℕ
  pub postings : List Posting
  pub postings_bytes : List ℕ
  pub positions_bytes : List ℕ

-- a field by its number, and its terms
pub record IndexedField : Type 0 where
  pub field : ℕ
  pub terms : List IndexedTerm

-- ---- what is recorded

-- the numbers of the indexed fields
abbrev pub indexed_fields : Schema → List ℕ
indexed_fields schema = map (λ p. p.0) (filter (λ p. is_indexed p.1) (enumerate_from 0 schema))

-- a term of a field by its value bytes
abbrev pub term_of_key : Schema → ℕ → List ℕ → List ℕ
term_of_key schema field key = option_map_or (λ e. term_bytes field e.kind key) (slice_get schema field) []

-- what is recorded of a term: of a text what its field records, and of every other the documents alone
abbrev pub option_of_term : Schema → List ℕ → IndexRecordOption
option_of_term schema t = if is_text_term t then option_map_or (λ e. e.record_option) (slice_get schema (field_of t)) basic else basic

-- the length ids of a field; none where it keeps no lengths
abbrev pub field_ids : List (ℕ × List ℕ) → ℕ → List ℕ
field_ids norms field = option_map_or (λ ids. ids) (ids_of field norms) []

-- ---- a term

-- the bytes of a term's positions; none where they aren't recorded
abbrev pub HasPositions : Bool → List ℕ → List ℕ → Type 0
HasPositions true numbers bytes = ArePositions numbers bytes
HasPositions false numbers bytes = bytes ≡ []

-- a posting in a segment of `num_docs` documents: where positions are recorded, as many as its count, which don't fall
pub record IsPosting (positions_recorded : Bool) (num_docs : ℕ) (p : Posting) : Type 0 where
  pub within : p.doc < num_docs
  pub counted : length p.positions ≡ (if positions_recorded then p.count else 0)
  pub placed : DontFall p.positions
  pub placed_fit : AllByRecursion (λ n. n < 2 ^ 31) p.positions

-- a term with at least one posting, and their bytes
pub record IsTerm (option : IndexRecordOption) (num_docs : ℕ) (ids : List ℕ) (t : IndexedTerm) : Type 0 where
  pub has_postings : 0 < length t.postings
  pub each_posting : AllByRecursion (IsPosting (has_positions option) num_docs) t.postings
  pub postings_are : AreTermPostings option ids (map (λ p. p.doc) t.postings) (map (λ p. p.count) t.postings) t.postings_bytes
  pub positions_are : HasPositions (has_positions option) (position_numbers (map (λ p. p.positions) t.postings)) t.positions_bytes

-- ---- the sections

-- how many documents have a term, and how many bytes it takes
abbrev pub lengths_of : IndexedTerm → List ℕ × TermLengths
lengths_of t = (t.key, record { doc_freq = length t.postings; postings_len = length t.postings_bytes; positions_len = length t.positions_bytes })

-- how many tokens a field has: the sum of its counts
abbrev pub num_tokens : IndexedField → ℕ
num_tokens f = sum_by (λ (t : IndexedTerm). sum_by (λ p. p.count) t.postings) f.terms

-- what the section of terms tells of a field
abbrev pub field_terms : IndexedField → FieldTerms
field_terms f = record { field = f.field; num_tokens = num_tokens f; terms = map lengths_of f.terms }

-- the terms of a field ascend, are no more than a u32 can count, and each has its bytes
pub record IsField (schema : Schema) (num_docs : ℕ) (norms : List (ℕ × List ℕ)) (f : IndexedField) : Type 0 where
  pub ascend : TermsAscend (map (λ t. t.key) f.terms)
  pub terms_fit : length f.terms ≤ 4294967295
  pub tokens_fit : num_tokens f < 2 ^ 64
  pub each_term : AllByRecursion (λ t. IsTerm (option_of_term schema (term_of_key schema f.field t.key)) num_docs (field_ids norms f.field) t) f.terms

-- the sections of these fields, which are the indexed ones, in a segment of `num_docs` documents with these lengths
pub record AreSections (schema : Schema) (num_docs : ℕ) (norms : List (ℕ × List ℕ)) (fields : List IndexedField) (terms postings_bytes positions_bytes : List ℕ) : Type 0 where
  pub names : map (λ (f : IndexedField). f.field) fields ≡ indexed_fields schema
  pub each_field : AllByRecursion (IsField schema num_docs norms) fields
  pub terms_are : AreSpelled (map field_terms fields) terms
  pub postings_are : postings_bytes ≡ flat_map (λ (f : IndexedField). flat_map (λ t. t.postings_bytes) f.terms) fields
  pub positions_are : positions_bytes ≡ flat_map (λ (f : IndexedField). flat_map (λ t. t.positions_bytes) f.terms) fields

-- ---- of documents

-- all terms, field by field
abbrev pub all_terms : Schema → List IndexedField → List (List ℕ)
all_terms schema fields = flat_map (λ (f : IndexedField). map (λ t. term_of_key schema f.field t.key) f.terms) fields

-- each term has the postings that the documents give it
abbrev pub HasPostingsOf : (List ℕ → List Posting) → Schema → IndexedField → Type 0
HasPostingsOf given schema f = AllByRecursion (λ t. t.postings ≡ given (term_of_key schema f.field t.key)) f.terms

-- the terms are those that have postings, and these are the given ones
pub record AreGiven (given : List ℕ → List Posting) (schema : Schema) (fields : List IndexedField) : Type 0 where
  pub each_field : AllByRecursion (HasPostingsOf given schema) fields
  pub all : (t : List ℕ) → 0 < length (given t) → list_any (bytes_eq t) (all_terms schema fields) ≡ true

-- the terms are those that a document holds, each with its postings in these documents
abbrev pub AreIndexed : Schema → Analyzer → List Document → List IndexedField → Type 0
AreIndexed schema analyze docs fields = AreGiven (λ t. postings schema analyze t docs) schema fields
