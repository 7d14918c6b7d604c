-- The pieces so far, with those that are left, are all.
use Rattle.std.proofs.Common.{drop, flat_map, map, string_bytes, ◌++◌, ◌≡◌}
use Rattle.snippets.specs.ShownTexts.{shown_piece}
use Rattle.snippets.specs.Views.{piece_of}
use Rattle.snippets.proofs.shown_texts.push_pieces.Given as goal

abbrev pub invariant-loop-piece : goal.invariant-loop-piece
invariant-loop-piece l = string_bytes l.out ++ flat_map shown_piece (map piece_of (drop l.piece-index l.pieces)) ≡ string_bytes l.fn.out ++ flat_map shown_piece (map piece_of l.pieces)
