-- What a commit's record says, and of what the segments are that it appends.
use Rattle.std.specs.Prelude.{◌++◌, ◌≡◌, ◌≤◌, Bool, List, drop, length, map, ℕ}
use Rattle.std.specs.List.{AllByRecursion, AllZip}
use Rattle.definitions.specs.Analyzers.{Analyzer}
use Rattle.definitions.specs.Recorded.{holds}
use Rattle.definitions.specs.Schema.{Schema}
use Rattle.definitions.specs.State.{as_group}
use Rattle.definitions.specs.Values.{Document}
use Rattle.definitions.specs.declared.fault.Fault.{Fault}
use Rattle.definitions.specs.declared.fault.Fault.TheVariants as faults
use Rattle.index_file.specs.Frames.{frame_bytes}
use Rattle.segment.specs.Opened.{IsOpened, StandsFor, bytes_of}
use Rattle.segment.specs.declared.segment.Segment as code
use Rattle.segment_definitions.specs.Rows.{left_rows}
use Rattle.segment_definitions.specs.ListBodies.{segments_body}
use Rattle.segment_definitions.specs.Waiting.{pending_rows}
use Rattle.index_state.specs.Bodies.{next_parts}
use Rattle.index_state.specs.Deletions.{IsSmall, numbered, term_of}
use Rattle.index_state.specs.Flags.{flagged_each}
use Rattle.index_state.specs.Limits.{TermsPass}
use Rattle.index_state.specs.Pending.{Holds}
use Rattle.index_state.specs.declared.deletions.Deletion.{Deletion}
use Rattle.index_state.specs.declared.pending_segments.PendingSegments.{PendingSegments}

-- segments stay opened under a schema
abbrev pub StayOpened : Schema → List code.Segment → List code.Segment → Type 0
StayOpened schema old new = ∥ AllByRecursion (IsOpened schema) old ∥₁ → ∥ AllByRecursion (IsOpened schema) new ∥₁

-- behind the segments before stand those of all documents that are pending
abbrev pub StandBehind : Schema → PendingSegments → List code.Segment → List code.Segment → Type 0
StandBehind schema pending old new = (analyze : Analyzer) (block_size : ℕ) (docs full : List (List Document)) (last : List Document)
    → AllZip (StandsFor schema analyze) docs old → Holds schema analyze block_size pending full last
    → AllZip (StandsFor schema analyze) (docs ++ (full ++ as_group last)) new

-- behind them stand those of some documents
abbrev pub SomeStandBehind : Schema → PendingSegments → List code.Segment → List code.Segment → Type 0
SomeStandBehind schema pending old new = (analyze : Analyzer) (block_size : ℕ) (docs full : List (List Document)) (last : List Document)
    → AllZip (StandsFor schema analyze) docs old → Holds schema analyze block_size pending full last
    → (some : List (List Document)) × AllZip (StandsFor schema analyze) (docs ++ some) new

-- a limit is met by the terms of the documents of the segment that isn't full
abbrev pub LastPasses : Schema → PendingSegments → Fault → Type 0
LastPasses schema pending fault = (analyze : Analyzer) (block_size : ℕ) (full : List (List Document)) (last : List Document)
    → Holds schema analyze block_size pending full last → fault ≡ faults.Limit → TermsPass schema analyze last

-- these sets leave of the segments what deletions leave: of the first ones what was alive, of the others the documents that
-- a deletion doesn't follow
abbrev pub LeavesRows : List (List Bool) → List Deletion → List code.Segment → List (List Bool) → Type 0
LeavesRows alive deletions segments sets = (schema : Schema) (analyze : Analyzer) (n : ℕ) (docs : List (List Document))
    → AllZip (StandsFor schema analyze) docs segments → AllByRecursion (λ ds. length ds ≤ n) (drop (length alive) docs)
    → AllByRecursion (IsSmall n) deletions
    → flagged_each docs sets
    ≡ map (left_rows (holds schema analyze) (map term_of deletions)) (flagged_each docs alive)
    ++ pending_rows (holds schema analyze) (map (numbered n) deletions) n 0 (drop (length alive) docs)

-- the frame of the record: the first segments stay, the others are new, and all have these sets
abbrev pub commit_frame_bytes : List (List Bool) → List code.Segment → List (List Bool) → List ℕ
commit_frame_bytes alive segments sets = frame_bytes (segments_body (next_parts (length alive) (map bytes_of segments)) sets)
