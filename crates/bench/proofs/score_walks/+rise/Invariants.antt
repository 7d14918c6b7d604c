use Rattle.std.proofs.Common.{length}
use Rattle.bench.proofs.score_walks.+rise.Given as goal

abbrev pub decreases-rise : goal.decreases-rise
decreases-rise l = length l.norms.now
