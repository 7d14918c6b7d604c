use Rattle.std.proofs.Common.{IsPermutation, length, map, ◌≡◌}
use Rattle.walks.proofs.union_walk.bring_frequent_first.Given as goal

-- the same cursors, in some order
abbrev pub invariant-loop-i : goal.invariant-loop-i
invariant-loop-i g l = record {
  moved : IsPermutation (map g.S.DocSet.entries l.fn.scorers.items) (map g.S.DocSet.entries l.scorers.items);
  long : length l.scorers.items ≡ length l.fn.scorers.items;
}
