use Rattle.std.proofs.Common.{List, drop, length, map, ◌*◌, ◌≡◌, ◌≤◌, ℕ}
use Rattle.std.specs.List.{AllByRecursion}
use Rattle.definitions.specs.Analyzers.{Analyzer}
use Rattle.definitions.specs.Recorded.{holds}
use Rattle.definitions.specs.Schema.{Schema}
use Rattle.definitions.specs.Values.{Document}
use Rattle.segment.specs.Opened.{StandsFor}
use Rattle.index_state.specs.Deletions.{IsSmall, numbered}
use Rattle.segment_definitions.specs.Rows.{flagged}
use Rattle.segment_definitions.specs.Waiting.{struck_from}
use Rattle.index_state.proofs.deletions.delete_pending.Given as goal

-- the deletions that are left make of the rows what all make of the first
abbrev pub invariant-loop-deletion : goal.invariant-loop-deletion
invariant-loop-deletion l =
    (length l.alive ≡ length l.fn.alive)
    × ((schema : Schema) (analyze : Analyzer) (n : ℕ) (docs : List Document) → StandsFor schema analyze docs l.segment → length docs ≤ n → AllByRecursion (IsSmall n) l.fn.deletions
    → AllByRecursion (IsSmall n) (drop l.deletion-index l.deletions) × (struck_from (holds schema analyze) (map (numbered n) (drop l.deletion-index l.deletions)) (n * l.number) (flagged docs l.alive) ≡ struck_from (holds schema analyze) (map (numbered n) l.fn.deletions) (n * l.number) (flagged docs l.fn.alive)))
