use Rattle.std.proofs.Common.{drop, length, map, vec_capacity, ◌++◌, ◌+◌, ◌≡◌, ◌≤◌}
use Rattle.docsets.specs.Entries.{highest}
use Rattle.docsets.specs.Members.{entries_at}
use Rattle.scorers.specs.Uniting.{most_sum, positions_in}
use Rattle.scorers.proofs.united_positions.gather_positions.Given as goal

-- what was taken and what is to come are all, for which there is room
abbrev pub invariant-loop-i : goal.invariant-loop-i
invariant-loop-i g l = record {
  same : map g.P.DocSet.entries l.docsets.items ≡ map g.P.DocSet.entries l.fn.docsets.items;
  taken : l.all.items ++ map (λ p. p + l.offset) (positions_in (entries_at l.doc (drop l.i (map g.P.DocSet.entries l.fn.docsets.items)))) ≡ map (λ p. p + l.offset) (positions_in (entries_at l.doc (map g.P.DocSet.entries l.fn.docsets.items)));
  high : highest (positions_in (entries_at l.doc (drop l.i (map g.P.DocSet.entries l.fn.docsets.items)))) ≤ highest (positions_in (entries_at l.doc (map g.P.DocSet.entries l.fn.docsets.items)));
  few : length l.all.items + most_sum (drop l.i (map g.P.DocSet.entries l.fn.docsets.items)) ≤ most_sum (map g.P.DocSet.entries l.fn.docsets.items);
  one : vec_capacity l.fn.one ≤ vec_capacity l.one;
  all : vec_capacity l.fn.all ≤ vec_capacity l.all;
}
