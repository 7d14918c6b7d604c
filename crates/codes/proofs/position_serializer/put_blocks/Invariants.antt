use Rattle.std.proofs.Common.{length}
use Rattle.codes.proofs.PositionsPut.{Goes}
use Rattle.codes.proofs.position_serializer.put_blocks.Given as goal

abbrev pub invariant-loop-rest : goal.invariant-loop-rest
invariant-loop-rest l = Goes l.numbers l.widths.items l.packed.items l.rest

abbrev pub decreases-loop-rest : goal.decreases-loop-rest
decreases-loop-rest l = length l.rest
