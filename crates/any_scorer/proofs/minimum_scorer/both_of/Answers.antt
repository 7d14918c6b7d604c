use Rattle.std.proofs.Common.{[], ap, refl, subst, sym, ◌∙◌, ◌∷◌}
use Rattle.any_scorer.proofs.Bounded.{both_rise}
use Rattle.any_scorer.proofs.ByScores.{joined}
use Rattle.docsets.specs.Entries.{Rising}
use Rattle.intersections.specs.Meetings.{meeting}
use Rattle.any_scorer.proofs.minimum_scorer.both_of.Goals as goal

pub returns-clause-scores : goal.returns-clause-scores
returns-clause-scores g c =
    λ d l. joined 2 _ _ (g.A.DocSet.entries c.args.left ∷ g.B.DocSet.entries c.args.right ∷ []) refl (c.new.ensures ∙ ap meeting c.in_ok-both.ensures.entries) d l

pub returns-clause-rises : goal.returns-clause-rises
returns-clause-rises g c =
    subst (Rising 0) (sym (c.new.ensures ∙ ap meeting c.in_ok-both.ensures.entries)) (both_rise (g.A.DocSet.entries c.args.left) (g.B.DocSet.entries c.args.right) (g.met.A.DocSet.rising c.args.left) (g.met.B.DocSet.rising c.args.right) c.requires.fits)
