use Rattle.std.proofs.Common.{subst}
use Rattle.definitions.specs.Query.{phrase}
use Rattle.query_scorers.specs.Accepted.{IsAccepted}
use Rattle.weights.specs.Given.{lent_similarity}
use Rattle.weights.proofs.given_weights.GivenWeightsLeafWeights.phrase_scorer.Goals as goal

pub phrase_query_scorer-requires-clause-accepted : goal.phrase_query_scorer-requires-clause-accepted
phrase_query_scorer-requires-clause-accepted g c = subst (λ o. IsAccepted (lent_similarity g.S.Statistics.similarity o).weight c.args.boost (phrase c.args.query.now.0 c.args.query.now.1)) c.in-Some.is c.requires.accepted

pub phrase_query_scorer-requires-in-None-clause-accepted : goal.phrase_query_scorer-requires-in-None-clause-accepted
phrase_query_scorer-requires-in-None-clause-accepted g c = subst (λ o. IsAccepted (lent_similarity g.S.Statistics.similarity o).weight c.args.boost (phrase c.args.query.now.0 c.args.query.now.1)) c.in-None.is c.requires.accepted
