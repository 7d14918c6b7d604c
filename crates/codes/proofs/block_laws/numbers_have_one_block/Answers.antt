use Rattle.codes.proofs.BlockBytes.{block_is, width_is}
use Rattle.std.proofs.Common.{sym}
use Rattle.codes.proofs.block_laws.numbers_have_one_block.Goals as goal

pub returns-clause-width : goal.returns-clause-width
returns-clause-width c w numbers bytes block = sym (width_is w numbers block.width block.packed.small block.least)

pub returns-clause-bytes : goal.returns-clause-bytes
returns-clause-bytes c w numbers bytes digits block = (block_is w numbers bytes digits block).1
