use Rattle.codes.proofs.SkipLaws.{one_reading}
use Rattle.codes.proofs.skip_laws.skips_have_one_reading.Goals as goal

pub returns : goal.returns
returns c = λ counts positions m n bytes a b. one_reading counts positions m n bytes a b
