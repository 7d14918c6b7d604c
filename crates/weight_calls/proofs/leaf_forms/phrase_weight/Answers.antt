use Rattle.std.proofs.Common.{ap, ap₂, arith, map, subst, sym, ◌≤◌, ◌∙◌}
use Rattle.std.proofs.Math.Logic.{∥∥₁_elim}
use Rattle.std.proofs.Props.{props}
use Rattle.definitions.specs.Query.{phrase}
use Rattle.definitions.specs.Scoring.{greatest_of, max_score, weight_sum}
use Rattle.leaf_weights.proofs.AcceptedTerms.{phrase_near}
use Rattle.leaf_weights.proofs.LeafScores.{small_if_boosted}
use Rattle.query_scorers.proofs.AcceptedParts.{fits}
use Rattle.weight_calls.proofs.leaf_forms.phrase_weight.Goals as goal

pub sum_of_weights-weight-requires : goal.sum_of_weights-weight-requires
sum_of_weights-weight-requires g c =
    let sim = g.S.Statistics.similarity c.args.statistics.now in
    let most = fits sim.weight 1 (phrase c.args.query.now.0 c.args.query.now.1) c.requires in
    subst (λ ts. weight_sum sim.weight ts ≤ max_score) (sym c.terms-terms.ensures.value) (small_if_boosted sim 1 c.args.query.now.0 most (omega arith))

pub new-phrase-requires-clause-near : goal.new-phrase-requires-clause-near
new-phrase-requires-clause-near g c =
    let sim = g.S.Statistics.similarity c.args.statistics.now in
    subst (λ ts. greatest_of (map (λ t. t.0) ts) ≤ 1073741824) (sym c.terms-terms.ensures.value) (∥∥₁_elim c.requires (hlevel props) (λ a. phrase_near a.0 sim.weight 1 c.args.query.now.0 c.args.query.now.1 a.1))

pub new-phrase-requires-clause-small : goal.new-phrase-requires-clause-small
new-phrase-requires-clause-small g c =
    let sim = g.S.Statistics.similarity c.args.statistics.now in
    let most = fits sim.weight 1 (phrase c.args.query.now.0 c.args.query.now.1) c.requires in
    let small = small_if_boosted sim 1 c.args.query.now.0 most (omega arith) in
    subst (λ n. n ≤ max_score) (sym (c.sum_of_weights-weight.ensures ∙ ap (weight_sum sim.weight) c.terms-terms.ensures.value)) small

pub returns-clause-scores : goal.returns-clause-scores
returns-clause-scores g c =
    let sim = g.S.Statistics.similarity c.args.statistics.now in
    c.slop.ensures.scores sim (c.new-phrase.ensures.scores sim (sym c.sum_of_weights-weight.ensures) (sym c.norms-norms.ensures.value))

pub returns-clause-query : goal.returns-clause-query
returns-clause-query g c =
    ap₂ phrase (c.slop.ensures.terms ∙ c.new-phrase.ensures.terms ∙ c.terms-terms.ensures.value) (c.slop.ensures.slop ∙ c.slop-slop.ensures)
