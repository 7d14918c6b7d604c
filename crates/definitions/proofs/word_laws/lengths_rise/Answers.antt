use Rattle.definitions.proofs.LengthIds.{lengths_rise}
use Rattle.definitions.proofs.word_laws.lengths_rise.Goals as goal

pub returns : goal.returns
returns c i j below within = lengths_rise i j below within
