use Rattle.std.proofs.Common.{length, ◌-◌, ◌≤◌}
use Rattle.docsets.proofs.list_scorer.reach.Given as goal

abbrev pub invariant-loop-index : goal.invariant-loop-index
invariant-loop-index l = 1 ≤ l.index

abbrev pub decreases-loop-index : goal.decreases-loop-index
decreases-loop-index l = length l.pairs - l.index
