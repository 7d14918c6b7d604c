use Rattle.std.proofs.Common.{List, length, map, min, sum, ◌-◌, ◌<◌, ◌≡◌, ◌≤◌, ℕ}
use Rattle.definitions.specs.Postings.{terminated}
use Rattle.docsets.specs.Entries.{Entry, from}
use Rattle.docsets.specs.Members.{at_least, entries_at, least, scores_in}
use Rattle.scorers.proofs.disjunction.choose.Given as goal

-- no document that is chosen was passed
abbrev pub invariant-loop-leader : goal.invariant-loop-leader
invariant-loop-leader g l = record {
  leads : l.leader.doc ≡ least (map g.S.DocSet.entries l.docsets.items);
  count : l.leader.doc < terminated → min l.minimum l.leader.count ≡ min l.minimum (length (entries_at l.leader.doc (map g.S.DocSet.entries l.docsets.items)));
  same : (make : ℕ → List Entry → Entry) → at_least l.minimum make (map g.S.DocSet.entries l.docsets.items) ≡ from l.target (at_least l.minimum make (map g.S.DocSet.entries l.fn.docsets.items));
  scores : (d : ℕ) → sum (scores_in (entries_at d (map g.S.DocSet.entries l.docsets.items))) ≤ sum (scores_in (entries_at d (map g.S.DocSet.entries l.fn.docsets.items)));
}

abbrev pub decreases-loop-leader : goal.decreases-loop-leader
decreases-loop-leader g l = terminated - l.leader.doc
