-- The pieces of a text, joined.
use Rattle.snippets.proofs.Parts.{parts_joined}
use Rattle.snippets.proofs.laws.pieces_are_the_text.Goals as goal

pub returns : goal.returns
returns c = parts_joined
