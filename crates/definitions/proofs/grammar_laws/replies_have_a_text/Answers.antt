use Rattle.definitions.proofs.Steps.{step_float}
use Rattle.definitions.proofs.grammar_laws.replies_have_a_text.Goals as goal

pub returns : goal.returns
returns c = step_float
