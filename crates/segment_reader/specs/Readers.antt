-- What a reader of an inverted index stands for.
use Rattle.std.specs.Prelude.{[], ◌/◌, ◌<◌, ◌==◌, ◌^◌, ◌≡◌, ◌≤◌, List, Option, Some, bytes_eq, find, flat_map, length, map, option_map, take, ℕ}
use Rattle.std.specs.Option.{option_map_or}
use Rattle.definitions.specs.Analyzers.{Analyzer}
use Rattle.definitions.specs.Blocks.{block_len, blocks, bound_of}
use Rattle.definitions.specs.KeptLengths.{norms_of}
use Rattle.definitions.specs.Postings.{Posting, postings, terminated}
use Rattle.definitions.specs.Schema.{Kind, Schema, max_fields}
use Rattle.definitions.specs.Values.{Document}
use Rattle.layouts.specs.InvertedIndexes.{AreIndexed, AreSections, IndexedField, IndexedTerm, field_terms, num_tokens, term_of_key, Sections}
use Rattle.terms.specs.Kinds.{kind_of}
use Rattle.segment_reader.specs.Dictionaries.{Placed}
use Rattle.segment_reader.specs.FieldDictionaries.{terms_in, terms_of_field}
use Rattle.segment_reader.specs.FieldKinds.{kinds_of, shown}
use Rattle.segment_reader.specs.TermPlaces.{fields_start}
use Rattle.segment_reader.specs.ToldFields.{AreTold}
use Rattle.segment_reader.specs.declared.field_index.FieldIndex.{FieldIndex}
use Rattle.segment_reader.specs.declared.term_info.TermInfo.{TermInfo}

-- a reader: its sections, and what it keeps of each field
pub record Reader : Type 0 where
  pub sections : Sections
  pub indexes : List FieldIndex

-- the reader is of the sections of these fields, in a segment of `num_docs` documents with these lengths
pub record IsReader (schema : Schema) (num_docs : ℕ) (norms : List (ℕ × List ℕ)) (fields : List IndexedField) (r : Reader) : Type 0 where
  pub schema_fits : length schema ≤ max_fields
  pub docs_few : num_docs ≤ terminated
  pub terms_short : length r.sections.terms < 2 ^ 63
  pub postings_short : length r.sections.postings < 2 ^ 63
  pub positions_short : length r.sections.positions < 2 ^ 63
  pub sections : AreSections schema num_docs norms fields r.sections.terms r.sections.postings r.sections.positions
  pub kinds : map shown (map (λ i. i.kind) r.indexes) ≡ kinds_of schema
  pub told : AreTold sections.terms_are.0 fields_start (map field_terms fields) r.indexes

-- what a reader's sections hold
pub record Contents (r : Reader) : Type 0 where
  pub schema : Schema
  pub num_docs : ℕ
  pub norms : List (ℕ × List ℕ)
  pub fields : List IndexedField
  pub is_reader : IsReader schema num_docs norms fields r

-- the sections are in their layout
pub record AreKnown (schema : Schema) (s : Sections) : Type 0 where
  pub num_docs : ℕ
  pub norms : List (ℕ × List ℕ)
  pub fields : List IndexedField
  pub docs_few : num_docs ≤ terminated
  pub sections_are : AreSections schema num_docs norms fields s.terms s.postings s.positions

-- these are the terms of documents, with the lengths that the documents have
pub record AreOfDocuments (r : Reader) (contents : Contents r) (analyze : Analyzer) (docs : List Document) : Type 0 where
  pub norms_are : contents.norms ≡ norms_of contents.schema analyze docs
  pub indexed : AreIndexed contents.schema analyze docs contents.fields

-- the bounds of the full blocks of a term in documents
abbrev pub full_bounds : Schema → Analyzer → List ℕ → List Document → List (Option (ℕ × ℕ))
full_bounds schema analyze t docs = map bound_of (take (length (postings schema analyze t docs) / block_len) (blocks schema analyze t docs))

-- ---- look-ups

-- the field of a number
abbrev pub index_in : ℕ → List FieldIndex → Option FieldIndex
index_in field indexes = find (λ i. i.kind.field == field) indexes

-- the terms of a field; none where it isn't indexed
abbrev pub dictionary_in : Reader → ℕ → List Placed
dictionary_in r field = terms_of_field r.sections.terms field r.indexes

-- a field is indexed, and its values are of that kind
pub record HasKind (r : Reader) (field : ℕ) (kind : Kind) : Type 0 where
  pub index : FieldIndex
  pub found : index_in field r.indexes ≡ Some index
  pub kind_is : kind_of index.kind.value_type ≡ kind

-- where the postings of a term stand, by its value bytes
abbrev pub info_in : List ℕ → List Placed → Option TermInfo
info_in key terms = option_map (λ t. t.1) (find (λ t. bytes_eq t.0 key) terms)

-- an info of the reader: its ranges stand within the sections
pub record IsInfo (r : Reader) (info : TermInfo) : Type 0 where
  pub postings_order : info.postings_range.start ≤ info.postings_range.end
  pub postings_end : info.postings_range.end ≤ length r.sections.postings
  pub positions_order : info.positions_range.start ≤ info.positions_range.end
  pub positions_end : info.positions_range.end ≤ length r.sections.positions

-- ---- meaning

-- a term of these fields, by all its bytes
abbrev pub term_held : Schema → List IndexedField → List ℕ → Option IndexedTerm
term_held schema fields t = option_map (λ (p : List ℕ × IndexedTerm). p.1) (find (λ (p : List ℕ × IndexedTerm). bytes_eq p.0 t) (flat_map (λ (f : IndexedField). map (λ (x : IndexedTerm). (term_of_key schema f.field x.key, x)) f.terms) fields))

-- its postings; none where no field has it
abbrev pub postings_held : Schema → List IndexedField → List ℕ → List Posting
postings_held schema fields t = option_map_or (λ (x : IndexedTerm). x.postings) (term_held schema fields t) []

-- how many tokens a field has; 0 where it isn't indexed
abbrev pub tokens_held : List IndexedField → ℕ → ℕ
tokens_held fields field = option_map_or num_tokens (find (λ (f : IndexedField). f.field == field) fields) 0

-- the term of a field with these value bytes
abbrev pub term_in : List IndexedField → ℕ → List ℕ → Option IndexedTerm
term_in fields field key = find (λ (x : IndexedTerm). bytes_eq x.key key) (terms_in field fields)

-- its postings; none where the field doesn't have it
abbrev pub postings_in : List IndexedField → ℕ → List ℕ → List Posting
postings_in fields field key = option_map_or (λ (x : IndexedTerm). x.postings) (term_in fields field key) []
