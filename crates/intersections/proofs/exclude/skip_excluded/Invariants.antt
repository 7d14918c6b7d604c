use Rattle.std.proofs.Common.{◌-◌, ◌≡◌}
use Rattle.definitions.specs.Postings.{terminated}
use Rattle.docsets.specs.Entries.{first}
use Rattle.intersections.specs.Differences.{without}
use Rattle.intersections.proofs.exclude.skip_excluded.Given as goal

-- nothing is passed that isn't excluded
abbrev pub invariant-loop-doc : goal.invariant-loop-doc
invariant-loop-doc g l = record {
  at : l.doc ≡ first (g.D.DocSet.entries l.underlying);
  same : without (g.E.ExclusionSet.excludes l.exclusion) (g.D.DocSet.entries l.underlying) ≡ without (g.E.ExclusionSet.excludes l.fn.exclusion) (g.D.DocSet.entries l.fn.underlying);
}

abbrev pub decreases-loop-doc : goal.decreases-loop-doc
decreases-loop-doc g l = terminated - l.doc
