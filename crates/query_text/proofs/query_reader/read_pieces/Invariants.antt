-- The pieces that are left are read on from here.
use Rattle.std.proofs.Common.{drop, map, ◌≡◌}
use Rattle.query_text.specs.Cutting.{piece_of}
use Rattle.query_text.specs.Groups.{reading_of}
use Rattle.query_text.specs.Reading.{nothing_read, past_pieces}
use Rattle.query_text.proofs.query_reader.read_pieces.Given as goal

abbrev pub invariant-loop-piece : goal.invariant-loop-piece
invariant-loop-piece g l =
    let words = g.V.Vocabulary.queries l.words in
    past_pieces words (reading_of l.reading) (map piece_of (drop l.piece-index l.pieces)) ≡ past_pieces words nothing_read (map piece_of l.pieces)
