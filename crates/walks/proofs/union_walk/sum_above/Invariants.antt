use Rattle.std.proofs.Common.{drop, map, sum, take, ◌+◌, ◌-◌, ◌≡◌}
use Rattle.docsets.specs.Members.{entries_at, scores_in}
use Rattle.walks.specs.Unions.{AreLater}
use Rattle.walks.proofs.union_walk.sum_above.Given as goal

-- the last ones so far are moved, and their scores and those to come make the sum
abbrev pub invariant-loop-i : goal.invariant-loop-i
invariant-loop-i g l = record {
  later : AreLater l.fn.doc (map g.S.DocSet.entries l.fn.scorers.items) (map g.S.DocSet.entries l.scorers.items);
  rest : drop l.fn.free.count (map g.S.DocSet.entries l.scorers.items) ≡ drop l.fn.free.count (map g.S.DocSet.entries l.fn.scorers.items);
  scores : l.total + sum (scores_in (entries_at l.fn.doc (take (l.fn.free.count - l.i) (map g.S.DocSet.entries l.fn.scorers.items)))) ≡ l.fn.score + sum (scores_in (entries_at l.fn.doc (take l.fn.free.count (map g.S.DocSet.entries l.fn.scorers.items))));
}
