use Rattle.std.proofs.Common.{ap, drop, map, of_z, rules, to_z, ◌≡◌, ◌∙◌}
use Rattle.std.proofs.lemmas.Int.{to_z-of_z}
use Rattle.std.proofs.lemmas.Result.{IfOk-weaker}
use mir.Syntax.{w64}
use mir.Val.{SFits}
use Rattle.any_scorer.proofs.Bounded.{bounded_best, natural_below}
use Rattle.any_scorer.proofs.SamePairs.{same_scores}
use Rattle.any_scorer.specs.Clauses.{by_best}
use Rattle.docsets.specs.ScoredEntryLaws.{Rising-scores}
use Rattle.definitions.specs.Scoring.{natural}
use Rattle.any_scorer.proofs.disjunction_max.disjunction_max_scorer.Goals as goal

pub returns-clause-scores : goal.returns-clause-scores
returns-clause-scores g c =
    let fits : SFits w64 c.args.tie_breaker = search rules in
    let tie : natural (to_z w64 (of_z w64 c.args.tie_breaker)) ≡ natural c.args.tie_breaker = ap natural (to_z-of_z w64 c.args.tie_breaker fits) in
    let ess = map g.S.DocSet.entries c.args.disjuncts.items in
    IfOk-weaker c.into_list.result _ _ (λ list same d l. same_scores d _ _ same ∙ (c.in_ok-best.ensures.scores d l ∙ ap (λ n. by_best n ess d) tie)) c.into_list.ensures

pub returns-clause-bounded : goal.returns-clause-bounded
returns-clause-bounded g c =
    IfOk-weaker c.into_list.result _ _ (λ list scores. bounded_best g.S.DocSet.entries g.met.S.DocSet.rising (natural c.args.tie_breaker) (natural_below c.args.tie_breaker 1000 c.requires.share) c.args.disjuncts.items _ (Rising-scores 0 (drop list.cursor list.pairs.items) list.scores) scores) (returns-clause-scores g c)

pub returns-clause-rises : goal.returns-clause-rises
returns-clause-rises g c = IfOk-weaker c.into_list.result _ _ (λ list same. Rising-scores 0 (drop list.cursor list.pairs.items) list.scores) c.into_list.ensures
