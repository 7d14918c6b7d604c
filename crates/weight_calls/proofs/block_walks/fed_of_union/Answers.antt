use Rattle.std.proofs.Common.{arith}
use Rattle.weight_calls.proofs.UnionLengths.{few_together}
use Rattle.weight_calls.proofs.block_walks.fed_of_union.Goals as goal

pub block_wand-requires-clause-fits : goal.block_wand-requires-clause-fits
block_wand-requires-clause-fits c = rw c.in_ok-scorers.ensures.items (omega arith)

pub block_wand-requires-clause-room : goal.block_wand-requires-clause-room
block_wand-requires-clause-room c = first_of (omega (arith, few_together), grind (arith, few_together))
