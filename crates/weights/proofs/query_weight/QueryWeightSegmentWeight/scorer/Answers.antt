use Rattle.std.proofs.Common.{ap, refl, rules}
use mir.Syntax.{w64}
use mir.Val.{SFits}
use Rattle.definitions.specs.Scoring.{natural}
use Rattle.query_trees.specs.Queries.{query_of}
use Rattle.weights.proofs.TreeLaws.{factor_is, weighed_accepted}
use Rattle.weights.proofs.query_weight.QueryWeightSegmentWeight.scorer.Goals as goal

pub scorer_of-requires-clause-accepted : goal.scorer_of-requires-clause-accepted
scorer_of-requires-clause-accepted g c =
    let w = c.args.self.now in
    let fits : SFits w64 c.args.boost = search rules in
    weighed_accepted (g.W.LeafWeights.similarity w.weights) (g.W.LeafWeights.similarity c.new-forms.result.weights.now) (natural c.args.boost) _ (query_of w.query.now) (query_of w.query.now) (ap g.W.LeafWeights.similarity c.new-forms.ensures.weights) (factor_is c.args.boost fits c.requires.positive) refl c.requires.accepted
