use Rattle.std.proofs.Common.{ap, ap₂, arith, length, map, subst, sym, ◌≤◌, ◌∙◌}
use Rattle.std.proofs.Math.Logic.{∥∥₁_elim}
use Rattle.std.proofs.Props.{props}
use Rattle.definitions.specs.Phrases.{whole_terms}
use Rattle.definitions.specs.Query.{phrase_prefix}
use Rattle.definitions.specs.Scoring.{greatest_of, max_score, weight_sum}
use Rattle.leaf_weights.proofs.AcceptedTerms.{prefix_near, prefix_several}
use Rattle.leaf_weights.proofs.LeafScores.{whole_small}
use Rattle.query_scorers.proofs.AcceptedParts.{fits}
use Rattle.weight_calls.proofs.leaf_forms.phrase_prefix_weight.Goals as goal

pub sum_of_weights-weight-requires : goal.sum_of_weights-weight-requires
sum_of_weights-weight-requires g c =
    let sim = g.S.Statistics.similarity c.args.statistics.now in
    let most = fits sim.weight 1 (phrase_prefix c.args.query.now.0 c.args.query.now.1) c.requires in
    subst (λ ts. weight_sum sim.weight ts ≤ max_score) (sym c.whole_terms.ensures) (whole_small sim 1 (whole_terms c.args.query.now.0) c.norms-norms.ensures.similarity.weights most (omega arith))

pub new-requires-clause-several : goal.new-requires-clause-several
new-requires-clause-several g c =
    let sim = g.S.Statistics.similarity c.args.statistics.now in
    subst (λ ts. 2 ≤ length ts) (sym c.terms-terms.ensures.value) (∥∥₁_elim c.requires (hlevel props) (λ a. prefix_several a.0 sim.weight 1 c.args.query.now.0 c.args.query.now.1 a.1))

pub new-requires-clause-near : goal.new-requires-clause-near
new-requires-clause-near g c =
    let sim = g.S.Statistics.similarity c.args.statistics.now in
    subst (λ ts. greatest_of (map (λ t. t.0) ts) ≤ 1073741824) (sym c.terms-terms.ensures.value) (∥∥₁_elim c.requires (hlevel props) (λ a. prefix_near a.0 sim.weight 1 c.args.query.now.0 c.args.query.now.1 a.1))

pub new-requires-clause-small : goal.new-requires-clause-small
new-requires-clause-small g c =
    let sim = g.S.Statistics.similarity c.args.statistics.now in
    let most = fits sim.weight 1 (phrase_prefix c.args.query.now.0 c.args.query.now.1) c.requires in
    let small = whole_small sim 1 (whole_terms c.args.query.now.0) c.norms-norms.ensures.similarity.weights most (omega arith) in
    subst (λ n. n ≤ max_score) (sym (c.sum_of_weights-weight.ensures ∙ ap (weight_sum sim.weight) c.whole_terms.ensures)) small

pub returns-clause-scores : goal.returns-clause-scores
returns-clause-scores g c =
    let sim = g.S.Statistics.similarity c.args.statistics.now in
    let weight = c.sum_of_weights-weight.ensures ∙ ap (weight_sum sim.weight) c.whole_terms.ensures in
    c.new.ensures.scores sim (ap (λ ts. weight_sum sim.weight (whole_terms ts)) c.terms-terms.ensures.value ∙ sym weight) (sym c.norms-norms.ensures.value)

pub returns-clause-query : goal.returns-clause-query
returns-clause-query g c =
    ap₂ phrase_prefix (c.new.ensures.terms ∙ c.terms-terms.ensures.value) (c.new.ensures.limit ∙ c.max_expansions-max_expansions.ensures)
