use Rattle.definitions.proofs.TokenTexts.{raw_and_default_analyzes}
use Rattle.definitions.proofs.word_laws.default_positions_never_fall.Goals as goal

pub returns : goal.returns
returns c = raw_and_default_analyzes
