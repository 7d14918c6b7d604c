-- The numbers are the fields of the bytes.
use Rattle.std.proofs.Common.{arith}
use Rattle.codes.proofs.BlockPackings.{numbers_read}
use Rattle.codes.proofs.block_decoder.BlockDecoder.uncompress_block_unsorted.Goals as goal

pub returns-clause-numbers : goal.returns-clause-numbers
returns-clause-numbers c = numbers_read c.args.num_bits c.args.bytes.now c.unpack.new.out (λ i. omega (arith, c.type_inv.bytes i)) c.requires.room c.unpack.ensures.count c.unpack.ensures.fields
