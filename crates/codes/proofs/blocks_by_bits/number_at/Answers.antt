-- One bit more above the others.
use Rattle.std.proofs.Common.{ap, arith, bit_or, ◌%◌, ◌*◌, ◌∙◌, ◌^◌}
use Rattle.codes.proofs.NumberBits.{bit_added}
use lib.Lanes.{number_l}
use Rattle.codes.proofs.blocks_by_bits.number_at.Goals as goal

pub loop-j-preserved : goal.loop-j-preserved
loop-j-preserved c = ap (λ b. bit_or c.loop-j.number (b * 2 ^ c.loop-j.j % 2 ^ 32)) c.bit_at.ensures ∙ bit_added (number_l 256 c.args.bytes.now) c.args.from c.loop-j.j c.loop-j.number (omega (arith, c.loop-j-test.true, c.requires.width)) c.loop-j.invariant
