use Rattle.common.proofs.AliveSetBits.{bit-is-flag}
use Rattle.common.proofs.alive_set_laws.bits_are_flags.Goals as goal

pub returns : goal.returns
returns c = bit-is-flag
