use Rattle.std.proofs.Common.{sum, take, ◌*◌, ◌≡◌, ◌≤◌}
use Rattle.segment_postings.proofs.positions_check.sum_of.Given as goal

abbrev pub invariant-loop-number : goal.invariant-loop-number
invariant-loop-number l = record {
  value : l.total ≡ sum (take l.number-index l.numbers);
  few : l.total ≤ 4294967295 * l.number-index;
}
