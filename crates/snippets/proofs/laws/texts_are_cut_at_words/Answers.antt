-- Where texts are cut.
use Rattle.snippets.proofs.Parts.{default_cut}
use Rattle.snippets.proofs.laws.texts_are_cut_at_words.Goals as goal

pub returns : goal.returns
returns c = default_cut
