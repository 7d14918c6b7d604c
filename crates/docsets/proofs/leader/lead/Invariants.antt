use Rattle.std.proofs.Common.{drop, length, map, take, ◌++◌, ◌<◌, ◌≡◌, ◌≤◌}
use Rattle.definitions.specs.Postings.{terminated}
use Rattle.docsets.specs.Entries.{from}
use Rattle.docsets.specs.Members.{entries_at, least}
use Rattle.docsets.proofs.leader.lead.Given as goal

-- those so far are moved, and this is their leader
abbrev pub invariant-loop-i : goal.invariant-loop-i
invariant-loop-i g l = record {
  lists : map g.D.DocSet.entries l.docsets.items ≡ map (from l.target) (take l.i (map g.D.DocSet.entries l.fn.docsets.items)) ++ drop l.i (map g.D.DocSet.entries l.fn.docsets.items);
  least : l.leader.doc ≡ least (map g.D.DocSet.entries (take l.i l.docsets.items));
  count : l.leader.doc < terminated → l.leader.count ≡ length (entries_at l.leader.doc (map g.D.DocSet.entries (take l.i l.docsets.items)));
  few : l.leader.count ≤ l.i;
}
