use Rattle.std.proofs.Common.{[], ap, arith, subst, sym, ◌++◌, ◌∙◌, ◌≡◌}
use Rattle.std.proofs.lemmas.List.{append-nil}
use Rattle.scorers.proofs.SignedScores.{scores_rise}
use Rattle.scorers.specs.Signed.{signed}
use Rattle.docsets.proofs.EntryLaws.{none_left}
use Rattle.docsets.specs.ScoredEntries.{AreScores}
use Rattle.any_scorer.proofs.scored_lists.for_each_scorer.Goals as goal

-- src/listing.rt:13:1
pub returns-clause-scores : goal.returns-clause-scores
returns-clause-scores g c =
    let end = c.loop-doc-test.false in
    let at = c.loop-doc.invariant.at in
    let none : g.S.DocSet.entries c.loop-doc.scorer ≡ [] = none_left 0 (g.S.DocSet.entries c.loop-doc.scorer) (g.met.S.DocSet.rising c.loop-doc.scorer) (omega (arith, end, at)) in
    subst (AreScores 0) (sym (sym (append-nil c.loop-doc.pairs.items) ∙ (ap (λ es. c.loop-doc.pairs.items ++ signed es) (sym none) ∙ c.loop-doc.invariant.all)))
    (scores_rise 0 (g.S.DocSet.entries c.args.scorer.now) (g.met.S.DocSet.rising c.args.scorer.now))
