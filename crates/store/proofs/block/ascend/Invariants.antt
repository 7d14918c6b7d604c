use Rattle.std.proofs.Common.{◌≡◌, length}
use Rattle.store.specs.Reading.{ascend, numbers}
use Rattle.store.proofs.block.ascend.Given as goal

-- the numbers that are left decide
abbrev pub invariant-loop-first : goal.invariant-loop-first
invariant-loop-first l = ascend l.end l.at (numbers l.rest) ≡ ascend l.fn.end 0 (numbers l.fn.starts)

abbrev pub decreases-loop-first : goal.decreases-loop-first
decreases-loop-first l = length l.rest
