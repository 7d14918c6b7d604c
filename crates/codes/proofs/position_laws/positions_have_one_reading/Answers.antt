use Rattle.codes.proofs.PositionsOpened.{one_list}
use Rattle.codes.proofs.position_laws.positions_have_one_reading.Goals as goal

pub returns : goal.returns
returns c = λ a b bytes. one_list a b bytes
