use Rattle.std.proofs.Common.{drop, map, sum, ◌+◌, ◌≡◌}
use Rattle.docsets.specs.Members.{entries_at}
use Rattle.scorers.specs.Uniting.{counts_in}
use Rattle.scorers.proofs.united_positions.freq_at.Given as goal

-- what was added up and what is to come are all
abbrev pub invariant-loop-i : goal.invariant-loop-i
invariant-loop-i g l = l.freq + sum (counts_in (entries_at l.doc (drop l.i (map g.P.DocSet.entries l.docsets.items)))) ≡ sum (counts_in (entries_at l.doc (map g.P.DocSet.entries l.docsets.items)))
