use Rattle.std.proofs.Common.{None, ap, rules, subst, sym, ◌∙◌, ◌≡◌}
use Rattle.std.proofs.lemmas.Result.{IfOk-weaker}
use Rattle.definitions.specs.Answers.{living_count}
use Rattle.definitions.specs.Query.{term}
use Rattle.definitions.specs.Refusing.{tree_fault}
use Rattle.weights.specs.AnyForms.{AnyScoresBy, any_query}
use Rattle.weights.specs.Weighing.{IsWeighed}
use Rattle.weights.proofs.any_weight.AnyWeightWeight.count.Goals as goal

pub returns-in-All : goal.returns-in-All
returns-in-All g c schema analyze sim rows has by passes = c.count_all.ensures schema analyze rows has ∙ ap (λ w. living_count schema analyze (any_query w) rows) (sym c.in-All.is)

pub returns-in-Term : goal.returns-in-Term
returns-in-Term g c schema analyze sim rows has by passes =
    let option = c.in-Term.query.now.1 in
    c.count_term.ensures schema analyze option rows has ∙ ap (λ t. living_count schema analyze (term t option) rows) c.term.ensures ∙ ap (λ w. living_count schema analyze (any_query w) rows) (sym c.in-Term.is)

pub count-requires : goal.count-requires
count-requires g c κs = (search rules, subst (λ w. IsWeighed (AnyScoresBy g.W.LeafWeights.similarity w) 1 (any_query w)) c.in-Boolean.is c.requires)

pub returns-in-Boolean : goal.returns-in-Boolean
returns-in-Boolean g c schema analyze sim rows has by passes =
    IfOk-weaker c.count.result _ _ (λ n is. is ∙ ap (λ w. living_count schema analyze (any_query w) rows) (sym c.in-Boolean.is))
    (c.count.ensures schema analyze sim rows has (subst (λ w. AnyScoresBy g.W.LeafWeights.similarity w sim) c.in-Boolean.is by) (subst (λ w. tree_fault schema sim.weight 1 (any_query w) ≡ None) c.in-Boolean.is passes))

pub count-requires-in-DisjunctionMax : goal.count-requires-in-DisjunctionMax
count-requires-in-DisjunctionMax g c κs = (search rules, subst (λ w. IsWeighed (AnyScoresBy g.W.LeafWeights.similarity w) 1 (any_query w)) c.in-DisjunctionMax.is c.requires)

pub returns-in-DisjunctionMax : goal.returns-in-DisjunctionMax
returns-in-DisjunctionMax g c schema analyze sim rows has by passes =
    IfOk-weaker c.count-in-DisjunctionMax.result _ _ (λ n is. is ∙ ap (λ w. living_count schema analyze (any_query w) rows) (sym c.in-DisjunctionMax.is))
    (c.count-in-DisjunctionMax.ensures schema analyze sim rows has (subst (λ w. AnyScoresBy g.W.LeafWeights.similarity w sim) c.in-DisjunctionMax.is by) (subst (λ w. tree_fault schema sim.weight 1 (any_query w) ≡ None) c.in-DisjunctionMax.is passes))
