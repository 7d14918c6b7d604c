use Rattle.definitions.specs.Scoring.{natural}
use Rattle.query_scorers.proofs.FormScores.{empty_scores}
use Rattle.weights.proofs.empty_weight.EmptyWeightSegmentWeight.scorer.Goals as goal

pub returns : goal.returns
returns c sim by = empty_scores sim (natural c.args._boost) c.args._reader.now _ c.new.ensures
