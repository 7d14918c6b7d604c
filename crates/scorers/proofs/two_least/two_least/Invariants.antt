use Rattle.std.proofs.Common.{map, take}
use Rattle.scorers.specs.TwoLeast.{AreTwoLeast}
use Rattle.scorers.proofs.two_least.two_least.Given as goal

-- these are of those so far
abbrev pub invariant-loop-i : goal.invariant-loop-i
invariant-loop-i g l = AreTwoLeast (map g.D.DocSet.entries (take l.i l.docsets.items)) l.two
