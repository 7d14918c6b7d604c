use Rattle.std.proofs.Common.{drop, map, take, ◌++◌, ◌≡◌}
use Rattle.docsets.specs.Entries.{from}
use Rattle.docsets.proofs.moves.move_all.Given as goal

-- those so far are moved
abbrev pub invariant-loop-i : goal.invariant-loop-i
invariant-loop-i g l = map g.D.DocSet.entries l.docsets.items ≡ map (from l.target) (take l.i (map g.D.DocSet.entries l.fn.docsets.items)) ++ drop l.i (map g.D.DocSet.entries l.fn.docsets.items)
