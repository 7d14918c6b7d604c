use Rattle.weights.proofs.UnscoredLaws.{unscored_similarity}
use Rattle.weights.proofs.no_scores.NoScoresStatistics.norms.Goals as goal

pub returns-clause-similarity : goal.returns-clause-similarity
returns-clause-similarity c = unscored_similarity
