-- The limits that the documents of a merge pass.
use Rattle.std.specs.Prelude.{◌+◌, ◌<◌, ◌^◌, ◌≡◌, ◌≤◌, ◌⊎◌, List, Some, length, slice_get, ℕ}
use Rattle.definitions.specs.Analyzers.{Analyzer}
use Rattle.definitions.specs.KeptLengths.{norms_of}
use Rattle.definitions.specs.Postings.{postings}
use Rattle.definitions.specs.Schema.{Schema}
use Rattle.definitions.specs.Values.{Document}
use Rattle.layouts.specs.Stores.{max_docs}
use Rattle.postings_writer.specs.Limits.{AnyPasses}
use Rattle.segment_definitions.specs.Slots.{slot}

-- the slot of one of these documents is too long for a block
abbrev pub AnyLongSlot : Schema → ℕ → List Document → Type 0
AnyLongSlot schema block_size docs = (i : ℕ) × (doc : Document) × (slice_get docs i ≡ Some doc) × (2 ^ 32 ≤ block_size + length (slot schema doc) + 8)

-- they are too many for a segment, or too much for its terms, or one is too long for a block
abbrev pub DocumentsPass : Schema → Analyzer → ℕ → List Document → Type 0
DocumentsPass schema analyze block_size docs = (max_docs < length docs) ⊎ (AnyPasses schema (norms_of schema analyze docs) (λ t. postings schema analyze t docs) ⊎ AnyLongSlot schema block_size docs)
