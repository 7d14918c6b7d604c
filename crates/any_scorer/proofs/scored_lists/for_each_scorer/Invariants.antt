use Rattle.std.proofs.Common.{length, ◌++◌, ◌≡◌}
use Rattle.scorers.specs.Signed.{signed}
use Rattle.docsets.specs.Entries.{first}
use Rattle.any_scorer.proofs.scored_lists.for_each_scorer.Given as goal

-- what was put on and what is left make all
abbrev pub invariant-loop-doc : goal.invariant-loop-doc
invariant-loop-doc g l = record {
  at : l.doc ≡ first (g.S.DocSet.entries l.scorer);
  all : l.pairs.items ++ signed (g.S.DocSet.entries l.scorer) ≡ signed (g.S.DocSet.entries l.fn.scorer);
}

abbrev pub decreases-loop-doc : goal.decreases-loop-doc
decreases-loop-doc g l = length (g.S.DocSet.entries l.scorer)
