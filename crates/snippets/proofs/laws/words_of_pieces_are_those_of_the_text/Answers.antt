-- The words of the pieces.
use Rattle.snippets.proofs.Parts.{same_words_in}
use Rattle.snippets.proofs.laws.words_of_pieces_are_those_of_the_text.Goals as goal

pub returns : goal.returns
returns c = same_words_in
