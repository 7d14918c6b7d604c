-- Segments: how many documents there are, and five sections.
use Rattle.std.specs.Prelude.{◌++◌, ◌<◌, ◌^◌, ◌≡◌, ◌≤◌, List, Ok, length, sum_by, ℕ}
use Rattle.std.specs.List.{AllByRecursion}
use Rattle.definitions.specs.Analyzers.{Analyzer}
use Rattle.definitions.specs.Calls.{document_given}
use Rattle.definitions.specs.KeptLengths.{length_fields, norms_of}
use Rattle.definitions.specs.NumberCodes.{u32_bytes, u64_bytes}
use Rattle.definitions.specs.Schema.{Schema}
use Rattle.definitions.specs.Values.{Document, IsDocument}
use Rattle.layouts.specs.FieldNorms.{IsNorms}
use Rattle.layouts.specs.InvertedIndexes.{AreIndexed, AreSections, IndexedField}
use Rattle.layouts.specs.Stores.{AreBlocks, Block, IsStore, max_docs, store_bytes}
use Rattle.segment_definitions.specs.Keys.{AreKeyed}
use Rattle.segment_definitions.specs.Slots.{slots}

-- the terms of the fields, their postings, their positions, the lengths of fields, and the store
pub record Sections : Type 0 where
  pub terms : List ℕ
  pub postings : List ℕ
  pub positions : List ℕ
  pub norms : List ℕ
  pub store : List ℕ

-- a section behind its length
abbrev pub section_bytes : List ℕ → List ℕ
section_bytes section = u64_bytes (length section) ++ section

-- how many documents, and the sections
abbrev pub segment_bytes : ℕ → Sections → List ℕ
segment_bytes num_docs s = u32_bytes num_docs ++ section_bytes s.terms ++ section_bytes s.postings ++ section_bytes s.positions ++ section_bytes s.norms ++ section_bytes s.store

-- one document or more, and no more than a store may have; each length is written in eight bytes
pub record AreWritten (num_docs : ℕ) (sections : Sections) (bytes : List ℕ) : Type 0 where
  pub has_documents : 0 < num_docs
  pub num_docs_fit : num_docs ≤ max_docs
  pub short : length bytes < 2 ^ 64
  pub bytes_are : bytes ≡ segment_bytes num_docs sections

-- The bytes are a segment of `num_docs` documents. Each section is in its layout, and each term has the bytes of a
-- value of its field. Not so the blocks of the store: these are read when their documents are.
pub record IsSegment (schema : Schema) (num_docs : ℕ) (bytes : List ℕ) : Type 0 where
  pub sections : Sections
  pub norms : List (ℕ × List ℕ)
  pub fields : List IndexedField
  pub blocks : List Block
  pub written : AreWritten num_docs sections bytes
  pub terms_are : AreSections schema num_docs norms fields sections.terms sections.postings sections.positions
  pub keyed : AreKeyed schema fields
  pub norms_are : IsNorms (length_fields schema) num_docs sections.norms norms
  pub store_is : sections.store ≡ store_bytes blocks
  pub blocks_are : AreBlocks blocks
  pub counted : sum_by (λ (b : Block). b.count) blocks ≡ num_docs

-- a document that an add takes: its values are of their types, and no test of an add refuses it
abbrev pub IsTaken : Schema → Document → Type 0
IsTaken schema doc = IsDocument doc × (document_given schema doc ≡ Ok doc)

-- The bytes are a segment of these documents, which an add takes: the terms are those that they hold, with their postings,
-- the lengths are theirs, and the store has their slots.
pub record IsSegmentOf (schema : Schema) (analyze : Analyzer) (docs : List Document) (bytes : List ℕ) : Type 0 where
  pub sections : Sections
  pub fields : List IndexedField
  pub taken : AllByRecursion (IsTaken schema) docs
  pub written : AreWritten (length docs) sections bytes
  pub terms_are : AreSections schema (length docs) (norms_of schema analyze docs) fields sections.terms sections.postings sections.positions
  pub keyed : AreKeyed schema fields
  pub indexed : AreIndexed schema analyze docs fields
  pub norms_are : IsNorms (length_fields schema) (length docs) sections.norms (norms_of schema analyze docs)
  pub store_is : IsStore (slots schema docs) sections.store
