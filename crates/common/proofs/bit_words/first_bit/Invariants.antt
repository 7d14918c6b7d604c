use Rattle.std.proofs.Common.{◌*◌}
use Rattle.common.proofs.FirstBits.{NoneIn}
use Rattle.common.specs.BitSets.{flag_at}
use Rattle.common.proofs.bit_words.first_bit.Given as goal

-- no bit is set in the words before this one
abbrev pub invariant-loop-i : goal.invariant-loop-i
invariant-loop-i l = NoneIn (flag_at l.words) l.from (64 * l.i)
