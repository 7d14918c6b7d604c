use Rattle.std.proofs.Common.{◌≡◌}
use Rattle.store.specs.SkipIndexes.{take_last}
use Rattle.store.proofs.skip_index.take_last.Given as goal

-- the numbers that are left decide
abbrev pub invariant-loop-left : goal.invariant-loop-left
invariant-loop-left l = take_last l.left l.last l.rest ≡ take_last l.fn.count 0 l.fn.bytes

abbrev pub decreases-loop-left : goal.decreases-loop-left
decreases-loop-left l = l.left
