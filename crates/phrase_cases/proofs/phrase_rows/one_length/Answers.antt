use Rattle.phrase_cases.proofs.Covered.{many-lengths}
use Rattle.phrase_cases.proofs.phrase_rows.one_length.Goals as goal

pub returns : goal.returns
returns c = many-lengths 2147483647 1 c.constant.result c.constant.ensures
