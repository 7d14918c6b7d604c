use Rattle.std.proofs.Common.{take, ◌-◌, ◌≡◌}
use Rattle.codes.proofs.VintLists.{prefixed}
use Rattle.layouts.specs.VintBlocks.{take_numbers}
use Rattle.codes.proofs.vint.read_numbers.Given as goal

-- what is left decides, behind the numbers so far
abbrev pub invariant-loop-index : goal.invariant-loop-index
invariant-loop-index l = take_numbers l.count l.bytes ≡ prefixed (take l.index l.output) (take_numbers (l.count - l.index) l.rest)
