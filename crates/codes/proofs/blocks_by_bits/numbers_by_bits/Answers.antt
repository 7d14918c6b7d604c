-- The numbers are the fields of the bytes.
use Rattle.std.proofs.Common.{arith}
use Rattle.codes.proofs.NumberBits.{numbers_by_fields}
use Rattle.codes.proofs.blocks_by_bits.numbers_by_bits.Goals as goal

pub returns : goal.returns
returns c = numbers_by_fields c.args.num_bits c.args.bytes.now c.loop-i.out (λ i. omega (arith, c.type_inv.bytes i)) c.requires.room c.loop-i.invariant.count (λ i within. c.loop-i.invariant.fields i (omega (arith, c.loop-i-test.false, within)))
