use Rattle.std.proofs.Common.{length}
use Rattle.scorer_cases.proofs.leaves.+ascend.Given as goal

abbrev pub decreases-ascend : goal.decreases-ascend
decreases-ascend l = length l.docs.now
