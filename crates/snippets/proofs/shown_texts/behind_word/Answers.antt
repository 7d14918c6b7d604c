-- What the word is stripped from, and a text that doesn't begin with it.
use Rattle.snippets.proofs.ShownTexts.{nothing_behind, rest_behind}
use Rattle.snippets.proofs.shown_texts.behind_word.Goals as goal

pub returns-in-Some : goal.returns-in-Some
returns-in-Some c = rest_behind c.args.piece.now.text.now c.args.piece.now.word.now c.in-Some.rest.now c.in-Some.ensures.cases

pub returns-in-None : goal.returns-in-None
returns-in-None c = nothing_behind c.args.piece.now.text.now c.args.piece.now.word.now c.in-None.ensures.cases
