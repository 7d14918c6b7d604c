-- What is left goes on from the mode in which the cutting stands.
use Rattle.std.proofs.Common.{drop, map, ◌++◌, ◌≡◌}
use Rattle.query_text.specs.Cutting.{HasBegun, mode_at, piece_of}
use Rattle.query_text.specs.Pieces as definitions
use Rattle.query_text.proofs.pieces.pieces_of.Given as goal

abbrev pub invariant-loop-offset : goal.invariant-loop-offset
invariant-loop-offset l = record {
  whole : map piece_of l.pieces.items ++ definitions.pieces_from (mode_at l.text l.offset l.mode) l.offset (drop l.offset l.text) ≡ definitions.pieces_of l.text;
  begun : HasBegun l.offset l.mode;
}
