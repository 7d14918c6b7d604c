use Rattle.std.proofs.Common.{List, drop, length, map, ◌≡◌}
use Rattle.definitions.specs.Analyzers.{Analyzer}
use Rattle.definitions.specs.Recorded.{holds}
use Rattle.definitions.specs.Schema.{Schema}
use Rattle.definitions.specs.Values.{Document}
use Rattle.segment.specs.Opened.{StandsFor}
use Rattle.index_state.specs.Deletions.{term_of}
use Rattle.segment_definitions.specs.Rows.{flagged, left_rows}
use Rattle.index_state.proofs.deletions.delete_all.Given as goal

-- the deletions that are left make of the rows what all make of the first
abbrev pub invariant-loop-deletion : goal.invariant-loop-deletion
invariant-loop-deletion l =
    (length l.alive ≡ length l.fn.alive)
    × ((schema : Schema) (analyze : Analyzer) (docs : List Document) → StandsFor schema analyze docs l.segment
    → left_rows (holds schema analyze) (map term_of (drop l.deletion-index l.deletions)) (flagged docs l.alive) ≡ left_rows (holds schema analyze) (map term_of l.fn.deletions) (flagged docs l.fn.alive))
