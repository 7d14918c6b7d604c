use Rattle.std.proofs.Common.{length}
use Rattle.codes_cases.proofs.lists.+ascend.Given as goal

-- proposed from what the function passes where it calls itself
abbrev pub decreases-ascend : goal.decreases-ascend
decreases-ascend l = length l.docs.now
