-- The pieces that are left decide.
use Rattle.std.proofs.Common.{drop, map, ◌≡◌}
use Rattle.std.specs.List.{list_any}
use Rattle.query_text.specs.Cutting.{piece_of}
use Rattle.query_text.specs.Operators.{is_small_piece}
use Rattle.query_text.proofs.operators.has_small_piece.Given as goal

abbrev pub invariant-loop-piece : goal.invariant-loop-piece
invariant-loop-piece l = list_any is_small_piece (map piece_of (drop l.piece-index l.pieces)) ≡ list_any is_small_piece (map piece_of l.pieces)
