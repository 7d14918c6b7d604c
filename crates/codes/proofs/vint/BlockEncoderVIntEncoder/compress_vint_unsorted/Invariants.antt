use Rattle.std.proofs.Common.{take, ◌++◌, ◌≡◌}
use Rattle.layouts.specs.VintBlocks.{numbers_bytes}
use Rattle.codes.proofs.vint.BlockEncoderVIntEncoder.compress_vint_unsorted.Given as goal

-- the numbers so far are put
abbrev pub invariant-loop-number : goal.invariant-loop-number
invariant-loop-number l = l.out.items ≡ l.fn.out.items ++ numbers_bytes (take l.number-index l.input)
