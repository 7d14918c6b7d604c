use Rattle.std.proofs.Common.{ap, arith, ◌++◌, ◌∙◌}
use Rattle.codes.proofs.BlockBytes.{block_is}
use Rattle.postings_writer.proofs.block_writer.put_packed.Goals as goal

pub returns : goal.returns
returns c w numbers block = c.in_ok-extend_from_slice.ensures.items ∙ ap (λ xs. c.args.blocks.now.items ++ xs) (block_is w numbers c.args.packed.now (λ i. omega (arith, c.type_inv.packed i)) block).1
