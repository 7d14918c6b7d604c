-- The bytes and the numbers are one number.
use Rattle.std.proofs.Common.{arith, length-take, take, ◌*◌}
use Rattle.codes.proofs.BlockPackings.{digits_are_packed}
use Rattle.codes.proofs.block_encoder.BlockEncoder.compress_block_unsorted.Goals as goal

pub returns : goal.returns
returns c = record {
  width = c.width_of-width.ensures.few;
  packed = digits_are_packed c.width_of-width.result c.args.numbers.now (take (16 * c.width_of-width.result) c.pack.new.out) c.requires (omega (arith, length-take (16 * c.width_of-width.result) c.pack.new.out, c.pack.ensures.room, c.width_of-width.ensures.few)) c.pack.ensures.bytes c.width_of-width.ensures.holds c.pack.ensures.number;
  least = c.width_of-width.ensures.least;
}
