use Rattle.std.proofs.Common.{subst}
use Rattle.definitions.specs.Query.{term}
use Rattle.query_scorers.specs.Accepted.{IsAccepted}
use Rattle.weights.specs.Given.{lent_similarity}
use Rattle.weights.proofs.given_weights.GivenWeightsLeafWeights.term_scorer.Goals as goal

pub term_query_scorer-requires-clause-accepted : goal.term_query_scorer-requires-clause-accepted
term_query_scorer-requires-clause-accepted g c = subst (λ o. IsAccepted (lent_similarity g.S.Statistics.similarity o).weight c.args.boost (term c.args.query.now.0 c.args.query.now.1)) c.in-Some.is c.requires.accepted

pub term_query_scorer-requires-in-None-clause-accepted : goal.term_query_scorer-requires-in-None-clause-accepted
term_query_scorer-requires-in-None-clause-accepted g c = subst (λ o. IsAccepted (lent_similarity g.S.Statistics.similarity o).weight c.args.boost (term c.args.query.now.0 c.args.query.now.1)) c.in-None.is c.requires.accepted
