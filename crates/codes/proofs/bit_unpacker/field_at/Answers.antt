-- The field lies inside the window.
use Rattle.codes.proofs.BitWindows.{field_of_word}
use Rattle.codes.proofs.bit_unpacker.field_at.Goals as goal

pub returns : goal.returns
returns g c = field_of_word _ g.row.W c.args.group c.args.index c.word_at-word.result c.requires.width c.word_at-word.ensures
