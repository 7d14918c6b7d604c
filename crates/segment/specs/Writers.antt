-- What a writer of a segment stands for, and why it refuses a document.
use Rattle.std.specs.Prelude.{◌+◌, ◌<◌, ◌^◌, ◌≡◌, ◌≤◌, ◌⊎◌, List, length, ℕ}
use Rattle.std.specs.List.{AllByRecursion}
use Rattle.definitions.specs.Analyzers.{Analyzer, IsAnalyzer}
use Rattle.definitions.specs.Schema.{Schema}
use Rattle.definitions.specs.Values.{Document}
use Rattle.definitions.specs.declared.fault.Fault.{Fault}
use Rattle.definitions.specs.declared.fault.Fault.TheVariants as faults
use Rattle.document_indexer.specs.Indexed.{IsWithinLimits, PassesLimit}
use Rattle.document_indexer.specs.Indexers.{HasIndexed}
use Rattle.layouts.specs.Stores.{max_docs}
use Rattle.segment_definitions.specs.Segments.{IsTaken}
use Rattle.segment_definitions.specs.Slots.{slot, slots}
use Rattle.segment.specs.declared.segment_writer.SegmentWriter.{SegmentWriter}
use Rattle.store.specs.Writing.{HoldsSlots}

-- these documents were added, under this block size: they are indexed, by tokens that are texts, and their slots are stored
pub record HasWritten (schema : Schema) (analyze : Analyzer) (block_size : ℕ) (writer : SegmentWriter) (docs : List Document) : Type 0 where
  pub taken : AllByRecursion (IsTaken schema) docs
  pub texts : 0 < length docs → IsAnalyzer analyze
  pub num_docs_fit : length docs ≤ max_docs
  pub indexed : HasIndexed schema analyze writer.indexer docs
  pub stored : HoldsSlots writer.store (slots schema docs)
  pub sized : writer.store.block_size ≡ block_size

-- a limit of the store that one document more would pass: a block's bytes, or the number of documents
abbrev pub PassesStore : Schema → ℕ → List Document → Document → Type 0
PassesStore schema block_size docs doc = (2 ^ 32 ≤ block_size + length (slot schema doc) + 8) ⊎ (max_docs ≤ length docs)

-- one document more passes none
pub record IsWithin (schema : Schema) (analyze : Analyzer) (block_size : ℕ) (docs : List Document) (doc : Document) : Type 0 where
  pub stored : PassesStore schema block_size docs doc → ⊥
  pub indexed : IsWithinLimits schema analyze docs doc

-- memory was wanting, or a limit would be passed
abbrev pub IsAddRefusal : Fault → Schema → Analyzer → ℕ → List Document → Document → Type 0
IsAddRefusal fault schema analyze block_size docs doc = (fault ≡ faults.OutOfMemory)
    ⊎ ((fault ≡ faults.Limit) × (PassesStore schema block_size docs doc ⊎ PassesLimit schema analyze docs doc))
