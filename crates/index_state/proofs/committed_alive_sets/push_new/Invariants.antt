use Rattle.std.proofs.Common.{List, drop, length, map, ◌*◌, ◌++◌, ◌-◌, ◌≡◌, ◌≤◌, ℕ}
use Rattle.std.specs.List.{AllByRecursion, AllZip}
use Rattle.definitions.specs.Analyzers.{Analyzer}
use Rattle.definitions.specs.Recorded.{holds}
use Rattle.definitions.specs.Schema.{Schema}
use Rattle.definitions.specs.Values.{Document}
use Rattle.segment.specs.Opened.{StandsFor}
use Rattle.index_state.specs.Deletions.{IsSmall, numbered}
use Rattle.index_state.specs.Flags.{AreFlagged, flagged_each}
use Rattle.segment_definitions.specs.Waiting.{pending_rows}
use Rattle.index_state.proofs.committed_alive_sets.push_new.Given as goal

-- the rows so far, and behind them those of the segments that are left
abbrev pub invariant-loop-at : goal.invariant-loop-at
invariant-loop-at l =
    AreFlagged l.segments l.sets.items
    × (length l.sets.items ≡ l.at)
    × ((schema : Schema) (analyze : Analyzer) (n : ℕ) (docs : List (List Document)) → AllZip (StandsFor schema analyze) docs l.segments
    → AllByRecursion (λ ds. length ds ≤ n) (drop l.num_committed docs) → AllByRecursion (IsSmall n) l.deletions
    → AllByRecursion (λ ds. length ds ≤ n) (drop l.at docs)
    × (flagged_each docs l.sets.items ++ pending_rows (holds schema analyze) (map (numbered n) l.deletions) n (n * (l.at - l.num_committed)) (drop l.at docs)
    ≡ flagged_each docs l.fn.sets.items ++ pending_rows (holds schema analyze) (map (numbered n) l.deletions) n 0 (drop l.num_committed docs)))
