-- Segments and lists of segments that examples share.
use Rattle.std.specs.Prelude.{[], ◌∷◌, ◌≡◌, List, codes, false, flat_map, length, map, replicate, true, ℕ}
use Rattle.definitions.specs.Analyzers.{raw_and_default}
use Rattle.definitions.specs.Examples.{bare, books, three_books}
use Rattle.definitions.specs.KeptLengths.{norms_of}
use Rattle.definitions.specs.Schema.{Schema, u64_kind}
use Rattle.layouts.specs.FieldNorms.{norms_bytes}
use Rattle.layouts.specs.InvertedIndexes.{IndexedField, field_terms}
use Rattle.layouts.specs.Stores.{Block, block_bytes, store_bytes}
use Rattle.layouts.specs.TermExamples.{titles, years}
use Rattle.layouts.specs.TermSections.{terms_bytes}
use Rattle.segment_definitions.specs.ListBodies.{Member, fresh, kept, segments_body}
use Rattle.segment_definitions.specs.Segments.{Sections, segment_bytes}
use Rattle.segment_definitions.specs.Slots.{slots}

-- a block of these slots
abbrev pub block_of : List (List ℕ) → Block
block_of docs = record { count = length docs; bytes = block_bytes docs }

-- the fields of three books
abbrev pub book_fields : List IndexedField
book_fields = titles ∷ years ∷ []

-- the sections of three books, whose slots stand in one block
abbrev pub book_sections : Sections
book_sections = record {
  terms = terms_bytes false (map field_terms book_fields);
  postings = flat_map (λ (f : IndexedField). flat_map (λ t. t.postings_bytes) f.terms) book_fields;
  positions = flat_map (λ (f : IndexedField). flat_map (λ t. t.positions_bytes) f.terms) book_fields;
  norms = norms_bytes (norms_of books raw_and_default three_books);
  store = store_bytes (block_of (slots books three_books) ∷ []);
}

-- the sections of one document without a value, in a schema without a field
abbrev pub bare_sections : Sections
bare_sections = record { terms = 0 ∷ []; postings = []; positions = []; norms = []; store = store_bytes (block_of ((0x80 ∷ []) ∷ []) ∷ []) }

-- as many bytes as there are documents: what the examples of bodies take for a segment
abbrev pub HasByteEach : ℕ → List ℕ → Type 0
HasByteEach num_docs bytes = length bytes ≡ num_docs

-- four segments of two documents each, of which all are alive
abbrev pub four_segments : List Member
four_segments = map (λ n. (replicate 2 n, true ∷ true ∷ [])) (10 ∷ 11 ∷ 12 ∷ 13 ∷ [])

-- four segments, after the second and the third were merged into one and a document of the last died
abbrev pub three_segments : List Member
three_segments = (10 ∷ 10 ∷ [], true ∷ true ∷ []) ∷ (7 ∷ 8 ∷ 9 ∷ [], true ∷ true ∷ true ∷ []) ∷ (13 ∷ 13 ∷ [], false ∷ true ∷ []) ∷ []

-- the bytes of the least segment: one document without a value
abbrev pub bare_segment : List ℕ
bare_segment = segment_bytes 1 bare_sections

-- the first body of a file over a schema without a field
abbrev pub bare_body : List ℕ
bare_body = 1 ∷ codes "{\"schema\":[],\"settings\":{}}"

-- then the least segment is added, and then its document dies
abbrev pub bare_bodies : List (List ℕ)
bare_bodies = segments_body (fresh bare_segment ∷ []) ((true ∷ []) ∷ []) ∷ segments_body (kept 0 ∷ []) ((false ∷ []) ∷ []) ∷ []

-- a year that is stored, and not indexed
abbrev pub stored_years : Schema
stored_years = record (bare "year" u64_kind) { stored = true } ∷ []

-- bodies of two new segments, each of one document, and of the segment at index 0, which is the second of these
abbrev pub replacing_bodies : List (List ℕ)
replacing_bodies = map (λ part. segments_body (part ∷ []) ((true ∷ []) ∷ [])) (fresh (10 ∷ []) ∷ fresh (11 ∷ []) ∷ kept 0 ∷ [])

-- the list of one segment that is this byte, and its document
abbrev pub one_byte : ℕ → List Member
one_byte b = (b ∷ [], true ∷ []) ∷ []
