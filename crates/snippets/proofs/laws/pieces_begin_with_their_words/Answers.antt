-- The words of the pieces, at their beginnings.
use Rattle.snippets.proofs.Parts.{parts_begin}
use Rattle.snippets.proofs.laws.pieces_begin_with_their_words.Goals as goal

pub returns : goal.returns
returns c = parts_begin
