use Rattle.std.proofs.Common.{List, drop, length, map, ◌++◌, ◌≡◌}
use Rattle.std.specs.List.{AllZip}
use Rattle.definitions.specs.Analyzers.{Analyzer}
use Rattle.definitions.specs.Recorded.{holds}
use Rattle.definitions.specs.Schema.{Schema}
use Rattle.definitions.specs.Values.{Document}
use Rattle.segment.specs.Opened.{StandsFor}
use Rattle.index_state.specs.Deletions.{term_of}
use Rattle.index_state.specs.Flags.{AreFlagged, flagged_each}
use Rattle.segment_definitions.specs.Rows.{left_rows}
use Rattle.index_state.proofs.committed_alive_sets.push_left.Given as goal

-- the rows so far, and behind them what deletions leave of the others, are what they leave of all
abbrev pub invariant-loop-number : goal.invariant-loop-number
invariant-loop-number l =
    AreFlagged l.segments l.sets.items
    × (length l.sets.items ≡ l.number)
    × ((schema : Schema) (analyze : Analyzer) (docs : List (List Document)) → AllZip (StandsFor schema analyze) docs l.segments
    → flagged_each docs l.sets.items ++ map (left_rows (holds schema analyze) (map term_of l.deletions)) (flagged_each (drop l.number docs) (drop l.number l.alive))
    ≡ map (left_rows (holds schema analyze) (map term_of l.deletions)) (flagged_each docs l.alive))
