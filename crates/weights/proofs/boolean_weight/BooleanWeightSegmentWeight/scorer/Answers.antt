use Rattle.std.proofs.Common.{ap, refl, rules}
use mir.Syntax.{w64}
use mir.Val.{SFits}
use Rattle.definitions.specs.Query as definitions
use Rattle.definitions.specs.Scoring.{natural}
use Rattle.query_trees.specs.Queries.{clauses_of}
use Rattle.weights.proofs.TreeLaws.{factor_is, weighed_accepted}
use Rattle.weights.proofs.boolean_weight.BooleanWeightSegmentWeight.scorer.Goals as goal

pub boolean_scorer-requires-clause-accepted : goal.boolean_scorer-requires-clause-accepted
boolean_scorer-requires-clause-accepted g c =
    let w = c.args.self.now in
    let fits : SFits w64 c.args.boost = search rules in
    weighed_accepted (g.W.LeafWeights.similarity w.weights) (g.W.LeafWeights.similarity c.new-forms.result.weights.now) (natural c.args.boost) _ (definitions.boolean (clauses_of w.clauses.now) w.minimum_number_should_match) (definitions.boolean (clauses_of w.clauses.now) w.minimum_number_should_match) (ap g.W.LeafWeights.similarity c.new-forms.ensures.weights) (factor_is c.args.boost fits c.requires.positive) refl c.requires.accepted
