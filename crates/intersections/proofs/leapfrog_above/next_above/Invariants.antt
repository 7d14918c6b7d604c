use Rattle.std.proofs.Common.{[], map, slice_index_or, ◌-◌, ◌≡◌}
use Rattle.definitions.specs.Postings.{terminated}
use Rattle.docsets.specs.Entries.{first}
use Rattle.intersections.specs.Thresholds.{PassLow}
use Rattle.intersections.proofs.leapfrog_above.next_above.Given as goal

-- what all have of those that are passed earns low scores, and the leader stands on the candidate
abbrev pub invariant-loop-candidate : goal.invariant-loop-candidate
invariant-loop-candidate g l = record {
  passes : PassLow (g.C.ColumnThreshold.score l.threshold) (g.C.ColumnThreshold.limit l.threshold) l.start l.candidate (map g.S.DocSet.entries l.fn.docsets.items) (map g.S.DocSet.entries l.docsets.items);
  stands : l.candidate ≡ first (slice_index_or (map g.S.DocSet.entries l.docsets.items) l.lead []);
}

abbrev pub decreases-loop-candidate : goal.decreases-loop-candidate
decreases-loop-candidate g l = terminated - l.candidate
