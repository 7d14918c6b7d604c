use Rattle.std.proofs.Common.{◌-◌}
use Rattle.store.proofs.Lowest.{Halves}
use Rattle.store.proofs.skip_index.SkipIndex.block_of.Given as goal

abbrev pub invariant-loop-low : goal.invariant-loop-low
invariant-loop-low l = Halves l.self-inside.checkpoints.items l.target l.low l.high

abbrev pub decreases-loop-low : goal.decreases-loop-low
decreases-loop-low l = l.high - l.low
