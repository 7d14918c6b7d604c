use Rattle.std.proofs.Common.{drop, map, min, ◌+◌, ◌≤◌}
use Rattle.scorers.specs.Uniting.{most_sum}
use Rattle.scorers.proofs.united_positions.most_together.Given as goal

-- what was added up bounds what is not to come, or is the greatest number
abbrev pub invariant-loop-i : goal.invariant-loop-i
invariant-loop-i g l = min (most_sum (map g.P.DocSet.entries l.docsets.items)) 18446744073709551615 ≤ l.most + most_sum (drop l.i (map g.P.DocSet.entries l.docsets.items))
