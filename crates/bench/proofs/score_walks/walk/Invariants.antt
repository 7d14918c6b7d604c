use Rattle.std.proofs.Common.{◌≡◌, length}
use Rattle.docsets.specs.Entries.{first}
use Rattle.bench.proofs.score_walks.walk.Given as goal

abbrev pub invariant-loop-doc : goal.invariant-loop-doc
invariant-loop-doc g l = l.doc ≡ first (g.S.DocSet.entries l.scorer)

abbrev pub decreases-loop-doc : goal.decreases-loop-doc
decreases-loop-doc g l = length (g.S.DocSet.entries l.scorer)
