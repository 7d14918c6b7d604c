use Rattle.std.proofs.Common.{subst}
use Rattle.definitions.specs.Query.{phrase_prefix}
use Rattle.query_scorers.specs.Accepted.{IsAccepted}
use Rattle.weights.specs.Given.{lent_similarity}
use Rattle.weights.proofs.given_weights.GivenWeightsLeafWeights.phrase_prefix_scorer.Goals as goal

pub prefix_query_scorer-requires-clause-accepted : goal.prefix_query_scorer-requires-clause-accepted
prefix_query_scorer-requires-clause-accepted g c = subst (λ o. IsAccepted (lent_similarity g.S.Statistics.similarity o).weight c.args.boost (phrase_prefix c.args.query.now.0 c.args.query.now.1)) c.in-Some.is c.requires.accepted

pub prefix_query_scorer-requires-in-None-clause-accepted : goal.prefix_query_scorer-requires-in-None-clause-accepted
prefix_query_scorer-requires-in-None-clause-accepted g c = subst (λ o. IsAccepted (lent_similarity g.S.Statistics.similarity o).weight c.args.boost (phrase_prefix c.args.query.now.0 c.args.query.now.1)) c.in-None.is c.requires.accepted
