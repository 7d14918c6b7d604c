use Rattle.std.proofs.Common.{length, map, take, ◌≡◌, ◌≤◌}
use Rattle.docsets.specs.Entries.{from}
use Rattle.docsets.specs.Members.{entries_at, least}
use Rattle.intersections.proofs.leapfrog.meet.Given as goal

-- those so far stand on the candidate, and from it on all have what they had
abbrev pub invariant-loop-i : goal.invariant-loop-i
invariant-loop-i g l = record {
  kept : map (from l.candidate) (map g.D.DocSet.entries l.docsets.items) ≡ map (from l.candidate) (map g.D.DocSet.entries l.fn.docsets.items);
  leads : l.candidate ≤ least (map g.D.DocSet.entries (take l.i l.docsets.items));
  count : length (entries_at l.candidate (map g.D.DocSet.entries (take l.i l.docsets.items))) ≡ l.i;
}
