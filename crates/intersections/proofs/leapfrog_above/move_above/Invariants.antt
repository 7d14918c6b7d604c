use Rattle.std.proofs.Common.{length, ◌-◌, ◌<◌, ◌≡◌, ◌≤◌, ℕ}
use Rattle.definitions.specs.Postings.{terminated}
use Rattle.docsets.specs.Entries.{first, first_positions, from, single}
use Rattle.docsets.specs.Members.{entries_of}
use Rattle.intersections.specs.Thresholds.{EarnLow}
use Rattle.intersections.proofs.leapfrog_above.move_above.Given as goal

-- what is passed earns low scores
abbrev pub invariant-loop-doc : goal.invariant-loop-doc
invariant-loop-doc g l = record {
  at : l.doc ≡ first (g.S.DocSet.entries l.cursor);
  rest : g.S.DocSet.entries l.cursor ≡ from l.doc (g.S.DocSet.entries l.fn.cursor);
  up : l.target ≤ l.doc;
  low : (d : ℕ) → l.target ≤ d → d < l.doc → 1 ≤ length (entries_of d (g.S.DocSet.entries l.fn.cursor)) → EarnLow (g.C.ColumnThreshold.score l.threshold) (g.C.ColumnThreshold.limit l.threshold) d l.is_last (length (single (first_positions (entries_of d (g.S.DocSet.entries l.fn.cursor)))));
}

abbrev pub decreases-loop-doc : goal.decreases-loop-doc
decreases-loop-doc g l = terminated - l.doc
