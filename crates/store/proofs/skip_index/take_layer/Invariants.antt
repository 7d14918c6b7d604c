use Rattle.std.proofs.Common.{length}
use Rattle.store.proofs.Lowest.{ReadsLayer}
use Rattle.store.proofs.skip_index.take_layer.Given as goal

abbrev pub invariant-loop-rest : goal.invariant-loop-rest
invariant-loop-rest l = ReadsLayer l.fn.bytes l.fn.out.items l.out.items l.rest

abbrev pub decreases-loop-rest : goal.decreases-loop-rest
decreases-loop-rest l = length l.rest
