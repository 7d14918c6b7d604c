use Rattle.std.proofs.Common.{drop, length, take, vec_capacity, ◌++◌, ◌+◌, ◌≡◌, ◌≤◌}
use Rattle.definitions.specs.Scanning.{ranked}
use Rattle.best_k.specs.Kept.{score_of}
use Rattle.best_k.proofs.merged_hits.merge.Given as goal

-- what is left of both lists is before what is behind it already
abbrev pub invariant-loop-j : goal.invariant-loop-j
invariant-loop-j l = record {
  older : l.i ≤ length l.fn.older.items;
  newer : l.j ≤ length l.fn.newer.items;
  long : length l.older.items ≡ length l.fn.older.items + length l.fn.newer.items;
  first : take l.i l.older.items ≡ take l.i l.fn.older.items;
  behind : ranked score_of (take l.i l.fn.older.items ++ take l.j l.fn.newer.items) ++ drop (l.i + l.j) l.older.items ≡ ranked score_of (l.fn.older.items ++ l.fn.newer.items);
  room : vec_capacity l.fn.older ≤ vec_capacity l.older;
}

abbrev pub decreases-loop-j : goal.decreases-loop-j
decreases-loop-j l = l.i + l.j
