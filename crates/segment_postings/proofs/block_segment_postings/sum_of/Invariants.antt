use Rattle.std.proofs.Common.{sum, take, ◌*◌, ◌≡◌, ◌≤◌}
use Rattle.segment_postings.proofs.block_segment_postings.sum_of.Given as goal

-- the sum of those so far
abbrev pub invariant-loop-count : goal.invariant-loop-count
invariant-loop-count l = record {
  value : l.total ≡ sum (take l.count-index l.counts);
  few : l.total ≤ 4294967295 * l.count-index;
}
