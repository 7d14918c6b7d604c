use Rattle.std.proofs.Common.{drop, map, min, sum, ◌+◌, ◌-◌, ◌≡◌, ◌≤◌}
use Rattle.definitions.specs.Postings.{terminated}
use Rattle.docsets.specs.Entries.{from}
use Rattle.docsets.specs.Members.{entries_at, least, scores_in}
use Rattle.walks.proofs.TailChanges.{tail_changed}
use Rattle.walks.proofs.union_walk.take_from.Given as goal

-- those so far are moved on, and their scores and those to come make the sum
abbrev pub invariant-loop-i : goal.invariant-loop-i
invariant-loop-i g l = record {
  begun : l.fn.first ≤ l.i;
  lists : map g.S.DocSet.entries l.scorers.items ≡ tail_changed (from (l.fn.doc + 1)) l.fn.first (l.i - l.fn.first) (map g.S.DocSet.entries l.fn.scorers.items);
  scores : l.taken.score + sum (scores_in (entries_at l.fn.doc (drop l.i (map g.S.DocSet.entries l.fn.scorers.items)))) ≡ sum (scores_in (entries_at l.fn.doc (drop l.fn.first (map g.S.DocSet.entries l.fn.scorers.items))));
  least : min l.taken.next (least (map (from (l.fn.doc + 1)) (drop l.i (map g.S.DocSet.entries l.fn.scorers.items)))) ≡ least (map (from (l.fn.doc + 1)) (drop l.fn.first (map g.S.DocSet.entries l.fn.scorers.items)));
  small : l.taken.next ≤ terminated;
}
