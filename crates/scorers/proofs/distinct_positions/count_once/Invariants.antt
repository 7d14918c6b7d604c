use Rattle.std.proofs.Common.{length, take, ◌≡◌, ◌≤◌}
use Rattle.docsets.specs.Distinct.{distinct}
use Rattle.scorers.proofs.distinct_positions.count_once.Given as goal

abbrev pub invariant-loop-i : goal.invariant-loop-i
invariant-loop-i l = record { counted : l.count ≡ length (distinct (take l.i l.numbers)); few : l.count ≤ l.i }
