use Rattle.std.proofs.Common.{ap, of_z, rules, to_z}
use Rattle.std.proofs.lemmas.Int.{to_z-of_z}
use mir.Syntax.{w64}
use mir.Val.{SFits}
use Rattle.definitions.specs.Query as definitions
use Rattle.definitions.specs.Scoring.{natural}
use Rattle.query_trees.specs.Queries.{query_of}
use Rattle.weights.proofs.TreeLaws.{factor_is, weighed_accepted}
use Rattle.weights.proofs.const_score_weight.ConstScoreWeightSegmentWeight.scorer.Goals as goal

pub constant_scorer-requires-clause-accepted : goal.constant_scorer-requires-clause-accepted
constant_scorer-requires-clause-accepted g c =
    let w = c.args.self.now in
    let fits : SFits w64 c.args.boost = search rules in
    let fit : SFits w64 w.score = search rules in
    weighed_accepted (g.W.LeafWeights.similarity w.weights) (g.W.LeafWeights.similarity c.new-forms.result.weights.now) (natural c.args.boost) _ (definitions.const_score w.score (query_of w.query.now)) (definitions.const_score (to_z w64 (of_z w64 w.score)) (query_of w.query.now)) (ap g.W.LeafWeights.similarity c.new-forms.ensures.weights) (factor_is c.args.boost fits c.requires.positive) (ap (λ z. definitions.const_score z (query_of w.query.now)) (to_z-of_z w64 w.score fit)) c.requires.accepted
