use Rattle.std.proofs.Common.{drop, sum, take, ◌+◌, ◌≡◌}
use Rattle.segment_postings.proofs.BoundedNumbers.{Bounds}
use Rattle.segment_postings.proofs.positions_check.bounded_end.Given as goal

abbrev pub invariant-loop-count : goal.invariant-loop-count
invariant-loop-count l = record {
  same : l.reader ≡ l.fn.reader;
  end_is : l.end ≡ l.index + sum (take l.count-index l.counts);
  bounds : Bounds l.counts (drop l.index l.fn.reader) l.fn.reader l.count-index l.end;
}
