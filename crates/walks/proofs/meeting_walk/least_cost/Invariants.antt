use Rattle.std.proofs.Common.{length, ◌<◌}
use Rattle.walks.proofs.meeting_walk.least_cost.Given as goal

-- the index is one of a scorer
abbrev pub invariant-loop-i : goal.invariant-loop-i
invariant-loop-i g l = l.index < length l.scorers.items
