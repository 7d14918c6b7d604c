-- The pieces so far don't have the word.
use Rattle.std.proofs.Common.{drop, map, ◌≡◌}
use Rattle.snippets.specs.Passages.{has}
use Rattle.snippets.specs.Views.{piece_of}
use Rattle.snippets.proofs.passages.has.Given as goal

abbrev pub invariant-loop-piece : goal.invariant-loop-piece
invariant-loop-piece l = has l.word (map piece_of (drop l.piece-index l.pieces)) ≡ has l.word (map piece_of l.pieces)
