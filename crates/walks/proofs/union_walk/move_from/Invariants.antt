use Rattle.std.proofs.Common.{drop, map, min, ◌-◌, ◌≡◌, ◌≤◌}
use Rattle.definitions.specs.Postings.{terminated}
use Rattle.docsets.specs.Entries.{from}
use Rattle.docsets.specs.Members.{least}
use Rattle.walks.proofs.TailChanges.{tail_changed}
use Rattle.walks.proofs.union_walk.move_from.Given as goal

-- those so far are moved, and the least of them and of those to come is that of all
abbrev pub invariant-loop-i : goal.invariant-loop-i
invariant-loop-i g l = record {
  begun : l.fn.first ≤ l.i;
  lists : map g.S.DocSet.entries l.scorers.items ≡ tail_changed (from l.fn.target) l.fn.first (l.i - l.fn.first) (map g.S.DocSet.entries l.fn.scorers.items);
  least : min l.doc (least (map (from l.fn.target) (drop l.i (map g.S.DocSet.entries l.fn.scorers.items)))) ≡ least (map (from l.fn.target) (drop l.fn.first (map g.S.DocSet.entries l.fn.scorers.items)));
  small : l.doc ≤ terminated;
}
