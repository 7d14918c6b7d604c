use Rattle.common.proofs.TakenBack.{bytes_back, text_back, vint_back}
use Rattle.common.proofs.number_code_laws.what_was_put_is_taken_back.Goals as goal

pub returns-clause-vint : goal.returns-clause-vint
returns-clause-vint c = vint_back

pub returns-clause-bytes : goal.returns-clause-bytes
returns-clause-bytes c = bytes_back

pub returns-clause-text : goal.returns-clause-text
returns-clause-text c = text_back
