use Rattle.std.proofs.Common.{length, ◌<◌}
use Rattle.intersections.proofs.leapfrog.cheapest.Given as goal

-- the index is one of a cursor
abbrev pub invariant-loop-i : goal.invariant-loop-i
invariant-loop-i g l = l.index < length l.docsets.items
