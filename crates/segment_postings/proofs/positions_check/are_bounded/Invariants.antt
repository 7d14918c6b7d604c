use Rattle.std.proofs.Common.{length, ◌≡◌}
use Rattle.segment_postings.proofs.BoundedNumbers.{Leaves}
use Rattle.segment_postings.specs.Cursors.{counts_left, docs_left}
use Rattle.segment_postings.proofs.positions_check.are_bounded.Given as goal

abbrev pub invariant-loop-room : goal.invariant-loop-room
invariant-loop-room l = record {
  reader_same : l.reader ≡ l.fn.reader;
  counted : length (counts_left l.blocks) ≡ length (docs_left l.blocks);
  leaves : Leaves (counts_left l.fn.blocks) l.fn.reader (counts_left l.blocks) l.index;
}

abbrev pub decreases-loop-room : goal.decreases-loop-room
decreases-loop-room l = length (docs_left l.blocks)
