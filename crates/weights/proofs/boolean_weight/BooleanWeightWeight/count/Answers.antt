use Rattle.std.proofs.Common.{None, ap, refl, rules, subst, sym, ◌∙◌, ◌≡◌}
use Rattle.std.proofs.lemmas.Result.{IfOk-weaker}
use Rattle.definitions.specs.Query as definitions
use Rattle.definitions.specs.Refusing.{tree_fault}
use Rattle.query_trees.specs.Queries.{clauses_of}
use Rattle.scorer_answers.specs.Rows.{HasRows}
use Rattle.weights.proofs.TreeLaws.{weighed_accepted}
use Rattle.weights.proofs.boolean_weight.BooleanWeightWeight.count.Goals as goal

pub count_clauses-requires : goal.count_clauses-requires
count_clauses-requires g c κs =
    let w = c.args.self.now in
    let q = definitions.boolean (clauses_of w.clauses.now) w.minimum_number_should_match in
    let accepted = weighed_accepted (g.W.LeafWeights.similarity w.weights) (g.W.LeafWeights.similarity c.new-forms.result.weights.now) 1 1 q q (ap g.W.LeafWeights.similarity c.new-forms.ensures.weights) refl refl c.requires in
    (search rules, accepted)

pub returns : goal.returns
returns g c schema analyze sim rows has by passes =
    let w = c.args.self.now in
    let q = definitions.boolean (clauses_of w.clauses.now) w.minimum_number_should_match in
    let same = ap g.W.LeafWeights.similarity c.new-forms.ensures.weights ∙ sym by in
    IfOk-weaker c.count_clauses.result _ _ (λ n is. is schema analyze rows (subst (HasRows schema analyze rows) (sym c.new-forms.ensures.segment) has) (subst (λ s. tree_fault schema s.weight 1 q ≡ None) (sym same) passes)) c.count_clauses.ensures
