use Rattle.std.proofs.Common.{List, length, take, ◌++◌, ◌+◌, ◌≡◌, ℕ}
use Rattle.std.specs.List.{AllByRecursion, AllZip}
use Rattle.definitions.specs.Analyzers.{Analyzer}
use Rattle.definitions.specs.Values.{Document}
use Rattle.segment.specs.Opened.{IsOpened, StandsFor}
use Rattle.segment.specs.declared.segment.Segment as code
use Rattle.index_state.specs.Pending.{Holds}
use Rattle.index_state.proofs.pending_segments.PendingSegments.open_into.Given as goal

-- those so far were opened, and stand behind those that were there
abbrev pub invariant-loop-full : goal.invariant-loop-full
invariant-loop-full l = record {
  opened : ∥ AllByRecursion (IsOpened l.schema) l.fn.segments.items ∥₁ → ∥ AllByRecursion (IsOpened l.schema) l.segments.items ∥₁;
  behind : (more : List code.Segment) × (l.segments.items ≡ l.fn.segments.items ++ more);
  counted : length l.segments.items ≡ length l.fn.segments.items + l.full-index;
  stand : (analyze : Analyzer) (block_size : ℕ) (docs full : List (List Document)) (last : List Document) → AllZip (StandsFor l.schema analyze) docs l.fn.segments.items → Holds l.schema analyze block_size l.self full last → AllZip (StandsFor l.schema analyze) (docs ++ take l.full-index full) l.segments.items;
}
