-- A bit of a byte is a bit of the number.
use Rattle.std.proofs.Common.{arith}
use Rattle.codes.proofs.NumberBits.{bit_taken}
use Rattle.codes.proofs.blocks_by_bits.bit_at.Goals as goal

pub returns : goal.returns
returns c = bit_taken c.args.bytes.now c.args.index (λ i. omega (arith, c.type_inv.bytes i))
