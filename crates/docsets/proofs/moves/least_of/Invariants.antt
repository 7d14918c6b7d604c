use Rattle.std.proofs.Common.{drop, map, min, ◌≡◌, ◌≤◌}
use Rattle.definitions.specs.Postings.{terminated}
use Rattle.docsets.specs.Members.{least}
use Rattle.docsets.proofs.moves.least_of.Given as goal

-- the least so far and of those to come
abbrev pub invariant-loop-i : goal.invariant-loop-i
invariant-loop-i g l = record {
  least : min l.doc (least (drop l.i (map g.D.DocSet.entries l.docsets.items))) ≡ least (map g.D.DocSet.entries l.docsets.items);
  small : l.doc ≤ terminated;
}
