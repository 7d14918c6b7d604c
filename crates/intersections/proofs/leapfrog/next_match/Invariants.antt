use Rattle.std.proofs.Common.{[], map, slice_index_or, ◌-◌, ◌≡◌}
use Rattle.definitions.specs.Postings.{terminated}
use Rattle.docsets.specs.Entries.{first}
use Rattle.intersections.specs.Meetings.{Passes}
use Rattle.intersections.proofs.leapfrog.next_match.Given as goal

-- no document that all have is passed, and the leader stands on the candidate
abbrev pub invariant-loop-candidate : goal.invariant-loop-candidate
invariant-loop-candidate g l = record {
  passes : Passes l.start l.candidate (map g.D.DocSet.entries l.fn.docsets.items) (map g.D.DocSet.entries l.docsets.items);
  stands : l.candidate ≡ first (slice_index_or (map g.D.DocSet.entries l.docsets.items) l.lead []);
}

abbrev pub decreases-loop-candidate : goal.decreases-loop-candidate
decreases-loop-candidate g l = terminated - l.candidate
