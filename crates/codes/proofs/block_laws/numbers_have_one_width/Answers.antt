-- Each is at most the other.
use Rattle.std.proofs.Common.{arith}
use Rattle.codes.proofs.block_laws.numbers_have_one_width.Goals as goal

pub returns : goal.returns
returns c v w numbers a b p q = omega (arith, p.least w q.packed.small, q.least v p.packed.small)
