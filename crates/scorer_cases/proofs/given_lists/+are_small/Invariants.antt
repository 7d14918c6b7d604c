use Rattle.std.proofs.Common.{length}
use Rattle.scorer_cases.proofs.given_lists.+are_small.Given as goal

abbrev pub decreases-are_small : goal.decreases-are_small
decreases-are_small l = length l.pairs.now
