use Rattle.std.proofs.Common.{◌≡◌, length}
use Rattle.docsets.specs.Entries.{first}
use Rattle.bench.proofs.cursor_walks.walk.Given as goal

abbrev pub invariant-loop-doc : goal.invariant-loop-doc
invariant-loop-doc g l = l.doc ≡ first (g.P.DocSet.entries l.postings)

abbrev pub decreases-loop-doc : goal.decreases-loop-doc
decreases-loop-doc g l = length (g.P.DocSet.entries l.postings)
