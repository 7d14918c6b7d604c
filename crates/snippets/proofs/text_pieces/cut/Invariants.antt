-- The parts so far, with those of what stands from `start` on, are all.
use Rattle.std.proofs.Common.{IsCharBoundary, drop, map, slice_range, ◌++◌, ◌≡◌, ◌≤◌}
use Rattle.snippets.specs.Cutting.{cut, cut_from}
use Rattle.snippets.proofs.text_pieces.cut.Given as goal

abbrev pub invariant-loop-offset : goal.invariant-loop-offset
invariant-loop-offset l = record {
  whole : map (λ p. p.now) l.parts.items ++ cut_from (slice_range l.text l.start l.offset) (drop l.offset l.text) ≡ cut l.text;
  begun : l.start ≤ l.offset;
  boundary : IsCharBoundary l.text l.start;
}
