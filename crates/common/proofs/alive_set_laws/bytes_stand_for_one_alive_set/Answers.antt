use Rattle.common.proofs.AliveSetBytes.{one_set}
use Rattle.common.proofs.alive_set_laws.bytes_stand_for_one_alive_set.Goals as goal

pub returns : goal.returns
returns c = one_set
