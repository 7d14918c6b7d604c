-- The pieces so far have room, and those that are left reach on from there.
use Rattle.std.proofs.Common.{drop, map, ◌+◌, ◌≡◌}
use Rattle.snippets.specs.Passages.{max_passage_len, reach}
use Rattle.snippets.specs.Views.{piece_of}
use Rattle.snippets.proofs.passages.reach.Given as goal

abbrev pub invariant-loop-count : goal.invariant-loop-count
invariant-loop-count l = l.count + reach l.room (map piece_of (drop l.count l.pieces)) ≡ reach max_passage_len (map piece_of l.pieces)
