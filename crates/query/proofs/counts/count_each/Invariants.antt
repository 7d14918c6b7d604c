use Rattle.std.proofs.Common.{List, None, drop, sum_by, ◌*◌, ◌+◌, ◌≡◌, ◌≤◌}
use Rattle.std.specs.List.{AllZip}
use Rattle.definitions.specs.Alive.{Segment}
use Rattle.definitions.specs.Analyzers.{Analyzer}
use Rattle.definitions.specs.Answers.{living_count}
use Rattle.definitions.specs.Refusing.{tree_fault}
use Rattle.definitions.specs.Schema.{Schema}
use Rattle.definitions.specs.Scoring.{Similarity}
use Rattle.scorer_answers.specs.Rows.{HasRows}
use Rattle.weights.specs.AnyForms.{AnyScoresBy, any_query}
use Rattle.query.proofs.counts.count_each.Given as goal

-- the count so far, and those of the segments that are left
abbrev pub invariant-loop-reader : goal.invariant-loop-reader
invariant-loop-reader g l = record {
  counted : (schema : Schema) (analyze : Analyzer) (sim : Similarity) (segments : List Segment) → AllZip (HasRows schema analyze) segments l.readers → AnyScoresBy g.W.LeafWeights.similarity l.weight sim → tree_fault schema sim.weight 1 (any_query l.weight) ≡ None → l.count + sum_by (living_count schema analyze (any_query l.weight)) (drop l.reader-index segments) ≡ sum_by (living_count schema analyze (any_query l.weight)) segments;
  few : l.count ≤ l.reader-index * 4294967296;
}
