use Rattle.definitions.proofs.Walks.{reached_is_led}
use Rattle.definitions.proofs.word_laws.walks_find_phrases.Goals as goal

pub returns : goal.returns
returns c earlier slop r = reached_is_led earlier slop r
