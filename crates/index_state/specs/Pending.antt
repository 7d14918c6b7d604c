-- What is pending while changes are taken: segments that are full, as bytes, and one that isn't.
use Rattle.std.specs.Prelude.{[], ◌*◌, ◌++◌, ◌+◌, ◌/◌, ◌<◌, ◌∷◌, ◌≡◌, ◌≤◌, ◌⊎◌, List, MatchOption, drop, length, option_to_list, ℕ}
use Rattle.std.specs.List.{AllZip}
use Rattle.definitions.specs.Analyzers.{Analyzer}
use Rattle.definitions.specs.Schema.{Schema}
use Rattle.definitions.specs.State.{Pending}
use Rattle.definitions.specs.Values.{Document}
use Rattle.segment.specs.Writers.{HasWritten}
use Rattle.segment_definitions.specs.Segments.{IsSegmentOf}
use Rattle.segment_definitions.specs.Waiting.{docs_of}
use Rattle.index_state.specs.declared.pending_segments.FullSegment.{FullSegment}
use Rattle.index_state.specs.declared.pending_segments.PendingSegments.{PendingSegments}

-- a full segment is of these documents, and tells how many they are
abbrev pub IsFull : Schema → Analyzer → List Document → FullSegment → Type 0
IsFull schema analyze docs segment = IsSegmentOf schema analyze docs segment.bytes × (segment.num_docs ≡ length docs)

-- how many segments there are, full or not
abbrev pub num_segments_in : PendingSegments → ℕ
num_segments_in pending = length pending.full.items + length (option_to_list pending.writer)

-- each full segment is of its documents, and the open one holds the last; there is none without documents
pub record Holds (schema : Schema) (analyze : Analyzer) (block_size : ℕ) (pending : PendingSegments)
    (full : List (List Document)) (last : List Document) : Type 0 where
  pub closed : AllZip (IsFull schema analyze) full pending.full.items
  pub writer : MatchOption pending.writer (last ≡ []) (λ writer. (0 < length last) × HasWritten schema analyze block_size writer last)

-- some documents are held
abbrev pub HoldsSome : Schema → Analyzer → ℕ → PendingSegments → Type 0
HoldsSome schema analyze block_size pending =
    (full : List (List Document)) × (last : List Document) × Holds schema analyze block_size pending full last

-- where segments are full with n documents: these last ones stay open, or they fill a segment, and none is open
abbrev pub HoldsLast : Schema → Analyzer → ℕ → ℕ → PendingSegments → List (List Document) → List Document → Type 0
HoldsLast schema analyze block_size n pending full last =
    ((length last < n) × Holds schema analyze block_size pending full last)
    ⊎ ((n ≤ length last) × Holds schema analyze block_size pending (full ++ last ∷ []) [])

-- of the documents that calls add, those of the segment that isn't full with n documents
abbrev pub open_docs : ℕ → List Pending → List Document
open_docs n pending = drop (n * (length (docs_of pending) / n)) (docs_of pending)
