use Rattle.std.proofs.Common.{ap, map, of_z, refl, rules, to_z, ◌≡◌, ◌∙◌}
use Rattle.std.proofs.lemmas.Int.{to_z-of_z}
use Rattle.std.proofs.lemmas.Result.{IfOk-weaker}
use mir.Syntax.{w64}
use mir.Val.{SFits}
use Rattle.any_scorer.proofs.Bounded.{best_rises, natural_below}
use Rattle.any_scorer.proofs.ByScores.{combined}
use Rattle.definitions.specs.Scoring.{best_and_tie, natural}
use Rattle.any_scorer.proofs.disjunction_max.best_of.Goals as goal

pub returns-clause-scores : goal.returns-clause-scores
returns-clause-scores g c =
    let fits : SFits w64 c.args.tie_breaker = search rules in
    let tie : natural (to_z w64 (of_z w64 c.args.tie_breaker)) ≡ natural c.args.tie_breaker = ap natural (to_z-of_z w64 c.args.tie_breaker fits) in
    IfOk-weaker c.build.result _ _ (λ best is. combined _ (best_and_tie (natural c.args.tie_breaker)) 1 _ _ (map g.S.DocSet.entries c.args.disjuncts.items) refl is (λ xs. c.with_tie_breaker-combiner.ensures.anew xs ∙ ap (λ n. best_and_tie n xs) tie)) c.build.ensures

pub returns-clause-rises : goal.returns-clause-rises
returns-clause-rises g c =
    let fits : SFits w64 c.args.tie_breaker = search rules in
    let tie : natural (to_z w64 (of_z w64 c.args.tie_breaker)) ≡ natural c.args.tie_breaker = ap natural (to_z-of_z w64 c.args.tie_breaker fits) in
    IfOk-weaker c.build.result _ _ (λ best is. best_rises g.S.DocSet.entries g.met.S.DocSet.rising _ (natural c.args.tie_breaker) (natural_below c.args.tie_breaker 1000 c.requires.share) (λ ys. c.with_tie_breaker-combiner.ensures.anew ys ∙ ap (λ n. best_and_tie n ys) tie) c.args.disjuncts.items c.requires.fits _ is) c.build.ensures
