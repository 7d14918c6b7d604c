use Rattle.std.proofs.Common.{drop, sum, ◌*◌, ◌+◌, ◌<◌, ◌≡◌, ◌≤◌, ◌^◌}
use Rattle.segment_postings.proofs.NumberFolds.{Decides}
use Rattle.segment_postings.specs.Blocks.{more_1}
use Rattle.segment_postings.proofs.block_totals.count_sum.Given as goal

abbrev pub invariant-loop-number : goal.invariant-loop-number
invariant-loop-number l = record {
  fit : Decides (λ n. n + 1 < 2 ^ 32) l.counts_less_1 l.number-index;
  whole : l.total + sum (more_1 (drop l.number-index l.counts_less_1)) ≡ sum (more_1 l.counts_less_1);
  few : l.total ≤ 4294967295 * l.number-index;
}
