use Rattle.codes.proofs.PositionNumbers.{same_documents}
use Rattle.codes.proofs.position_laws.numbers_have_one_reading.Goals as goal

pub returns : goal.returns
returns c = λ a b. same_documents a b
