use Rattle.std.proofs.Common.{length}
use Rattle.scorer_cases.proofs.leaves.+are_scores.Given as goal

abbrev pub decreases-are_scores : goal.decreases-are_scores
decreases-are_scores l = length l.pairs.now
