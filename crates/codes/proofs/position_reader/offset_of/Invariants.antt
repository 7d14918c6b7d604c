use Rattle.std.proofs.Common.{take, ◌≡◌}
use Rattle.codes.specs.PositionBlocks.{packed_len}
use Rattle.codes.proofs.position_reader.offset_of.Given as goal

-- the blocks so far are passed
abbrev pub invariant-loop-passed : goal.invariant-loop-passed
invariant-loop-passed l = l.offset ≡ packed_len (take l.passed l.widths)
