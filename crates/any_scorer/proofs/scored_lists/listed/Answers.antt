use Rattle.std.proofs.Common.{ap, ◌∙◌}
use Rattle.scorers.proofs.SignedScores.{naturals_of}
use Rattle.docsets.specs.ScoredEntries.{naturals, pairs_of}
use Rattle.docsets.proofs.ScoredEntryLaws.{pairs-scored}
use Rattle.any_scorer.proofs.scored_lists.listed.Goals as goal

-- src/listing.rt:31:1
pub returns : goal.returns
returns g c =
    ap pairs_of c.new.ensures
    ∙ (pairs-scored (naturals c.in_ok-pairs.pairs.items)
    ∙ (ap naturals c.in_ok-pairs.ensures.pairs ∙ naturals_of (g.S.DocSet.entries c.args.scorer)))
