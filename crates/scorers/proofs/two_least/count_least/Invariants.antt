use Rattle.std.proofs.Common.{drop, length, map, ◌+◌, ◌<◌, ◌≡◌, ◌≤◌}
use Rattle.definitions.specs.Postings.{terminated}
use Rattle.docsets.specs.Members.{entries_at}
use Rattle.scorers.proofs.two_least.count_least.Given as goal

-- those that were counted and those to come are all
abbrev pub invariant-loop-i : goal.invariant-loop-i
invariant-loop-i g l = record {
  count : l.two.doc < terminated → l.count + length (entries_at l.two.doc (drop l.i (map g.D.DocSet.entries l.docsets.items))) ≡ length (entries_at l.two.doc (map g.D.DocSet.entries l.docsets.items));
  few : l.count ≤ l.i;
}
