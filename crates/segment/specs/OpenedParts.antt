-- The parts of an opened segment.
use Rattle.std.specs.Prelude.{◌≡◌, List, sum_by, ℕ}
use Rattle.definitions.specs.KeptLengths.{length_fields}
use Rattle.definitions.specs.Schema.{Schema}
use Rattle.layouts.specs.FieldNorms.{IsNorms}
use Rattle.layouts.specs.InvertedIndexes.{AreSections, IndexedField}
use Rattle.layouts.specs.Stores.{AreBlocks, Block, store_bytes}
use Rattle.segment_definitions.specs.Keys.{AreKeyed}
use Rattle.segment_definitions.specs.Segments.{AreWritten, Sections}
use Rattle.segment_reader.specs.Readers.{IsReader, Reader}

-- what the bytes of a segment were opened to under that schema: its number of documents, its terms, the fields that
-- keep lengths, the section of the lengths, and the blocks of its store
pub record AreOpenedParts (schema : Schema) (bytes : List ℕ) (num_docs : ℕ) (index : Reader) (kept lengths : List ℕ) (store : List Block) : Type 0 where
  pub sections : Sections
  pub norms : List (ℕ × List ℕ)
  pub fields : List IndexedField
  pub written : AreWritten num_docs sections bytes
  pub fields_are : kept ≡ length_fields schema
  pub lengths_are : lengths ≡ sections.norms
  pub norms_are : IsNorms (length_fields schema) num_docs sections.norms norms
  pub terms_are : AreSections schema num_docs norms fields sections.terms sections.postings sections.positions
  pub keyed : AreKeyed schema fields
  pub reads : (others : List IndexedField) → AreSections schema num_docs norms others sections.terms sections.postings sections.positions → IsReader schema num_docs norms others index
  pub blocks_are : AreBlocks store
  pub store_is : sections.store ≡ store_bytes store
  pub counted : sum_by (λ (b : Block). b.count) store ≡ num_docs
