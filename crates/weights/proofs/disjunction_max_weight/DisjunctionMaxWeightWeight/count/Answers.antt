use Rattle.std.proofs.Common.{None, ap, refl, rules, subst, sym, ◌∙◌, ◌≡◌}
use Rattle.std.proofs.lemmas.Result.{IfOk-weaker}
use Rattle.definitions.specs.Query as definitions
use Rattle.definitions.specs.Refusing.{tree_fault}
use Rattle.query_scorers.proofs.AcceptedParts.{fits, queries_accepted}
use Rattle.query_trees.specs.Queries.{queries_of}
use Rattle.scorer_answers.specs.Rows.{HasRows}
use Rattle.weights.proofs.TreeLaws.{weighed_accepted}
use Rattle.weights.proofs.disjunction_max_weight.DisjunctionMaxWeightWeight.count.Goals as goal

pub count_disjuncts-requires : goal.count_disjuncts-requires
count_disjuncts-requires g c κs =
    let w = c.args.self.now in
    let made = g.W.LeafWeights.similarity c.new-forms.result.weights.now in
    let qs = queries_of w.disjuncts.now in
    let q = definitions.disjunction_max qs w.tie_breaker in
    let accepted = weighed_accepted (g.W.LeafWeights.similarity w.weights) made 1 1 q q (ap g.W.LeafWeights.similarity c.new-forms.ensures.weights) refl refl c.requires in
    (search rules, (queries_accepted made.weight 1 qs w.tie_breaker accepted, fits made.weight 1 q accepted))

pub returns : goal.returns
returns g c schema analyze sim rows has by passes =
    let w = c.args.self.now in
    let q = definitions.disjunction_max (queries_of w.disjuncts.now) w.tie_breaker in
    let same = ap g.W.LeafWeights.similarity c.new-forms.ensures.weights ∙ sym by in
    IfOk-weaker c.count_disjuncts.result _ _ (λ n is. is w.tie_breaker schema analyze rows (subst (HasRows schema analyze rows) (sym c.new-forms.ensures.segment) has) (subst (λ s. tree_fault schema s.weight 1 q ≡ None) (sym same) passes)) c.count_disjuncts.ensures
