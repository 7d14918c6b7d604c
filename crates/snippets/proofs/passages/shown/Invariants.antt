-- Of the words so far, as many are shown.
use Rattle.std.proofs.Common.{map, ◌≡◌, ◌≤◌}
use Rattle.snippets.specs.Passages.{shown}
use Rattle.snippets.specs.Views.{piece_of}
use Rattle.snippets.proofs.passages.shown.Given as goal

abbrev pub invariant-loop-word : goal.invariant-loop-word
invariant-loop-word l = record {
  shown : l.count ≡ shown l.word (map piece_of l.pieces);
  few : l.count ≤ l.word;
}
