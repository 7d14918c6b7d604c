-- Words and pieces of the code, as the definitions have them.
use Rattle.snippets.specs.Passages as passages
use Rattle.snippets.specs.Snippets as snippets
use Rattle.snippets.specs.declared.passages.Piece.{Piece}
use Rattle.snippets.specs.declared.words.Word.{Word}

-- a word
abbrev pub word_of : Word → snippets.Word
word_of w = record { text = w.text.now; is_prefix = w.is_prefix }

-- a piece
abbrev pub piece_of : Piece → passages.Piece
piece_of p = record { text = p.text.now; word = p.word.now; found = p.found }
