use Rattle.std.proofs.Common.{length}
use Rattle.scorer_cases.proofs.scored_terms.+rise.Given as goal

abbrev pub decreases-rise : goal.decreases-rise
decreases-rise l = length l.norms.now
