use Rattle.std.proofs.Common.{length}
use Rattle.codes.proofs.FirstNumber.{Follows}
use Rattle.codes.proofs.vint.first_number.Given as goal

abbrev pub invariant-loop-rest : goal.invariant-loop-rest
invariant-loop-rest l = Follows l.bytes l.value l.shift l.rest

abbrev pub decreases-loop-rest : goal.decreases-loop-rest
decreases-loop-rest l = length l.rest
