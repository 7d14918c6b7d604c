use Rattle.std.proofs.Common.{length, ◌≡◌}
use Rattle.docsets.specs.Entries.{first}
use Rattle.segment_postings.specs.Cursors.{entries_left}
use Rattle.bench.proofs.score_walks.walk_dividing.Given as goal

abbrev pub invariant-loop-doc : goal.invariant-loop-doc
invariant-loop-doc l = l.doc ≡ first (entries_left l.postings)

abbrev pub decreases-loop-doc : goal.decreases-loop-doc
decreases-loop-doc l = length (entries_left l.postings)
