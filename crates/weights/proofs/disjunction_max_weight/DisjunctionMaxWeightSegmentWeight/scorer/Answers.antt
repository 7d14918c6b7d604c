use Rattle.std.proofs.Common.{ap, of_z, rules, to_z}
use Rattle.std.proofs.lemmas.Int.{to_z-of_z}
use mir.Syntax.{w64}
use mir.Val.{SFits}
use Rattle.definitions.specs.Query as definitions
use Rattle.definitions.specs.Scoring.{natural}
use Rattle.query_trees.specs.Queries.{queries_of}
use Rattle.weights.proofs.TreeLaws.{factor_is, weighed_accepted}
use Rattle.weights.proofs.disjunction_max_weight.DisjunctionMaxWeightSegmentWeight.scorer.Goals as goal

pub max_scorer-requires-clause-accepted : goal.max_scorer-requires-clause-accepted
max_scorer-requires-clause-accepted g c =
    let w = c.args.self.now in
    let fits : SFits w64 c.args.boost = search rules in
    let fit : SFits w64 w.tie_breaker = search rules in
    weighed_accepted (g.W.LeafWeights.similarity w.weights) (g.W.LeafWeights.similarity c.new-forms.result.weights.now) (natural c.args.boost) _ (definitions.disjunction_max (queries_of w.disjuncts.now) w.tie_breaker) (definitions.disjunction_max (queries_of w.disjuncts.now) (to_z w64 (of_z w64 w.tie_breaker))) (ap g.W.LeafWeights.similarity c.new-forms.ensures.weights) (factor_is c.args.boost fits c.requires.positive) (ap (λ z. definitions.disjunction_max (queries_of w.disjuncts.now) z) (to_z-of_z w64 w.tie_breaker fit)) c.requires.accepted
