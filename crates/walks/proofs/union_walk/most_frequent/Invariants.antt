use Rattle.std.proofs.Common.{length, map, ◌<◌, ◌≡◌}
use Rattle.walks.proofs.union_walk.most_frequent.Given as goal

-- the cursors stay where they are, and the index is one of a scorer
abbrev pub invariant-loop-i : goal.invariant-loop-i
invariant-loop-i g l = record {
  same : map g.S.DocSet.entries l.scorers.items ≡ map g.S.DocSet.entries l.fn.scorers.items;
  within : l.index < length l.scorers.items;
}
