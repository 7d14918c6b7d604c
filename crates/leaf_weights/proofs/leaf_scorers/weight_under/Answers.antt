use Rattle.leaf_weights.proofs.LeafScores.{weighs_nothing}
use Rattle.leaf_weights.proofs.leaf_scorers.weight_under.Goals as goal

pub returns-then-boost-eq0 : goal.returns-then-boost-eq0
returns-then-boost-eq0 g c = weighs_nothing (g.S.Statistics.similarity c.args.statistics.now) c.args.boost c.args.terms.now c.if-boost-eq0.true
