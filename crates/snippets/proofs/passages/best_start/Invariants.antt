-- The most so far, and the most from here on, are the most of all.
use Rattle.std.proofs.Common.{drop, length, map, max, ◌≡◌, ◌≤◌}
use Rattle.snippets.specs.Passages.{most, shown, window}
use Rattle.snippets.specs.Views.{piece_of}
use Rattle.snippets.proofs.passages.best_start.Given as goal

abbrev pub invariant-loop-index : goal.invariant-loop-index
invariant-loop-index l = record {
  most : max l.most (most l.words (map piece_of (drop l.index l.pieces))) ≡ most l.words (map piece_of l.pieces);
  shown : shown l.words (window (map piece_of (drop l.start l.pieces))) ≡ l.most;
  within : l.start ≤ length l.pieces;
}
