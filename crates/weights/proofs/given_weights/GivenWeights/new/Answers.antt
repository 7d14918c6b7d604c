use Rattle.weights.proofs.GivenLaws.{lent_is}
use Rattle.weights.proofs.given_weights.GivenWeights.new.Goals as goal

pub returns : goal.returns
returns g c = lent_is g.S.Statistics.similarity c.args.statistics
