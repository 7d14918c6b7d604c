use Rattle.std.proofs.Common.{subst, sym}
use Rattle.query_trees.specs.Queries.{query_of}
use Rattle.query_scorers.specs.Accepted.{IsAccepted}
use Rattle.weight_cases.proofs.told_queries.in_segment.Goals as goal

pub told-requires-clause-accepted : goal.told-requires-clause-accepted
told-requires-clause-accepted g c = subst (λ w. IsAccepted (g.W.LeafWeights.similarity w).weight 1 (query_of c.args.query.now)) (sym c.new-forms.ensures.weights) c.requires
