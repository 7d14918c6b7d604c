use Rattle.std.proofs.Common.{drop, length, map, sum, take, ◌++◌, ◌+◌, ◌≡◌}
use Rattle.docsets.specs.Entries.{from}
use Rattle.docsets.specs.Members.{entries_at, scores_in}
use Rattle.walks.proofs.meeting_walk.sum_met.Given as goal

-- those so far have the document, are moved there, and their scores and those to come make the sum
abbrev pub invariant-loop-i : goal.invariant-loop-i
invariant-loop-i g l = record {
  lists : map g.S.DocSet.entries l.others.items ≡ map (from l.fn.doc) (take l.i (map g.S.DocSet.entries l.fn.others.items)) ++ drop l.i (map g.S.DocSet.entries l.fn.others.items);
  count : l.i + length (entries_at l.fn.doc (drop l.i (map g.S.DocSet.entries l.fn.others.items))) ≡ length (entries_at l.fn.doc (map g.S.DocSet.entries l.fn.others.items));
  scores : l.total + sum (scores_in (entries_at l.fn.doc (drop l.i (map g.S.DocSet.entries l.fn.others.items)))) ≡ l.fn.score + sum (scores_in (entries_at l.fn.doc (map g.S.DocSet.entries l.fn.others.items)));
}
