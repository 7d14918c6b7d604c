use Rattle.std.proofs.Common.{take, ◌-◌, ◌≡◌, ◌≤◌}
use Rattle.definitions.proofs.Lists.{all_behind}
use Rattle.layouts.specs.VintBlocks.{take_all_numbers}
use Rattle.codes.proofs.vint.read_all_numbers.Given as goal

-- what is left decides, behind the numbers so far
abbrev pub invariant-loop-rest : goal.invariant-loop-rest
invariant-loop-rest l = (take_all_numbers 128 l.bytes ≡ all_behind (take l.count l.output) (take_all_numbers (128 - l.count) l.rest)) × (l.count ≤ 128)

abbrev pub decreases-loop-rest : goal.decreases-loop-rest
decreases-loop-rest l = 128 - l.count
