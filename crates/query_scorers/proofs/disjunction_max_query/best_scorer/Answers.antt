use Rattle.std.proofs.Common.{ap, arith, map, of_z, rules, to_z, ◌≡◌, ◌∙◌}
use Rattle.std.proofs.lemmas.Int.{to_z-of_z}
use mir.Syntax.{w64}
use mir.Val.{SFits}
use Rattle.any_scorer.specs.Clauses.{by_best}
use Rattle.definitions.specs.Scoring.{natural}
use Rattle.query_scorers.proofs.Combined.{best_scores}
use Rattle.query_scorers.proofs.Results.{of_three}
use Rattle.query_scorers.proofs.disjunction_max_query.best_scorer.Goals as goal

-- src/best.rt:36:5
pub returns : goal.returns
returns g c =
    let few = c.max_doc.ensures.few in
    let many = c.max_doc.ensures.value in
    let said = c.disjunction_max_scorer.ensures in
    let narrow : SFits w64 c.args.tie_breaker = search rules in
    let tie : natural (to_z w64 (of_z w64 c.args.tie_breaker)) ≡ natural c.args.tie_breaker = ap natural (to_z-of_z w64 c.args.tie_breaker narrow) in
    let ess = map g.S.DocSet.entries c.args.disjuncts.items in
    λ sim b qs all. of_three c.disjunction_max_scorer.result _ _ _ _ (λ list scores bounded rises. best_scores sim b c.args.reader.now (omega (arith, few, many)) qs c.args.tie_breaker ess _ all (λ d l. scores d l ∙ ap (λ n. by_best n ess d) tie) bounded rises) said.scores said.bounded said.rises
