use Rattle.std.proofs.Common.{ap, drop, map, sum, sym, ◌+◌, ◌∙◌}
use Rattle.std.proofs.lemmas.Result.{IfOk-weaker}
use Rattle.any_scorer.proofs.ByClauses.{nothing_added, summed_with}
use Rattle.any_scorer.proofs.ByScores.{with_optional_scores}
use Rattle.any_scorer.specs.Clauses.{scores_at, scores_of}
use Rattle.definitions.proofs.Lists.{emptied}
use Rattle.docsets.specs.ScoredEntries.{naturals, scored}
use Rattle.any_scorer.proofs.boolean.optional_scorer.Goals as goal

-- src/clauses.rt:123:9
pub returns-then-is_empty : goal.returns-then-is_empty
returns-then-is_empty g c =
    let empty = emptied c.args.shoulds.items _ _ (sym c.args.shoulds.ok.0) c.is_empty.ensures c.if-is_empty.true in
    λ d l. (let scores = scores_of d (scored (naturals (drop c.args.required.cursor c.args.required.pairs.items))) in
    nothing_added scores ∙ ap (λ xs. map (λ s. s + sum (scores_at d (map g.S.DocSet.entries xs))) scores) (sym empty))

-- src/clauses.rt:110:1
pub returns : goal.returns
returns g c =
    let ess = map g.S.DocSet.entries c.args.shoulds.items in
    IfOk-weaker c.listed.result _ _ (λ list same d l. with_optional_scores sum _ _ _ _ d same c.new.ensures ∙ summed_with d _ ess _ (c.in_ok-some.ensures.scores d l)) c.listed.ensures
