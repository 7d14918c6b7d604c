use Rattle.std.proofs.Common.{length, map, ◌-◌, ◌<◌, ◌≡◌, ◌≤◌, ℕ}
use Rattle.definitions.specs.Postings.{terminated}
use Rattle.docsets.specs.Entries.{from}
use Rattle.docsets.specs.Members.{entries_at}
use Rattle.scorers.specs.TwoLeast.{AreTwoLeast}
use Rattle.scorers.proofs.two_least.past_alone.Given as goal

-- one list at most has what was passed
abbrev pub invariant-loop-two : goal.invariant-loop-two
invariant-loop-two g l = record {
  two : AreTwoLeast (map g.D.DocSet.entries l.docsets.items) l.two;
  moved : map g.D.DocSet.entries l.docsets.items ≡ map (from l.two.doc) (map g.D.DocSet.entries l.fn.docsets.items);
  few : (d : ℕ) → d < l.two.doc → length (entries_at d (map g.D.DocSet.entries l.fn.docsets.items)) ≤ 1;
}

abbrev pub decreases-loop-two : goal.decreases-loop-two
decreases-loop-two g l = terminated - l.two.doc
