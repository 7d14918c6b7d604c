use Rattle.codes.proofs.SectionLaws.{one_section}
use Rattle.codes.proofs.layout_laws.sections_have_one_reading.Goals as goal

pub returns : goal.returns
returns c = λ fields bytes n a b. one_section fields bytes n a b
