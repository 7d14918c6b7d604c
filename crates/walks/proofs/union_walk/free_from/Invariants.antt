use Rattle.std.proofs.Common.{map, pos, sum, take, ◌+◌, ◌<◌, ◌≡◌, ◌≤◌, ◌≤ℤ◌, ℕ}
use Rattle.definitions.specs.Postings.{terminated}
use Rattle.definitions.specs.Scoring.{max_score}
use Rattle.docsets.specs.Members.{entries_at, scores_in}
use Rattle.walks.specs.Unions.{bound_of}
use Rattle.walks.proofs.union_walk.free_from.Given as goal

-- the cursors stay where they are, and those so far are free and have these bounds
abbrev pub invariant-loop-i : goal.invariant-loop-i
invariant-loop-i g l = record {
  same : map g.S.DocSet.entries l.scorers.items ≡ map g.S.DocSet.entries l.fn.scorers.items;
  ahead : l.fn.target < l.free.until;
  within : l.free.until ≤ terminated;
  count : l.free.count ≡ l.i;
  few : l.free.bound ≤ max_score;
  most : (n : ℕ) → n < l.i → bound_of l.free.bounds n ≤ l.free.bound;
  bound : (d : ℕ) → l.fn.target ≤ d → d < l.free.until → sum (scores_in (entries_at d (take l.i (map g.S.DocSet.entries l.fn.scorers.items)))) ≤ l.free.bound;
  bounds : (n d : ℕ) → n < l.i → l.fn.target ≤ d → d < l.free.until → sum (scores_in (entries_at d (take (n + 1) (map g.S.DocSet.entries l.fn.scorers.items)))) ≤ bound_of l.free.bounds n;
  low : 0 < l.i → pos l.free.bound ≤ℤ l.fn.threshold;
}
