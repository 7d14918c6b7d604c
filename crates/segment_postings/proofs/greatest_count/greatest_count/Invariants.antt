use Rattle.std.proofs.Common.{List, length, ℕ}
use Rattle.segment_postings.proofs.BoundedCounts.{Later}
use Rattle.segment_postings.specs.CountBounds.{TellCounts}
use Rattle.segment_postings.proofs.greatest_count.greatest_count.Given as goal

abbrev pub invariant-loop-tf_sum : goal.invariant-loop-tf_sum
invariant-loop-tf_sum l = (counts : List ℕ) → TellCounts l.num_positions l.fn.skips counts → Later l.num_positions l.skips counts l.greatest

abbrev pub decreases-loop-tf_sum : goal.decreases-loop-tf_sum
decreases-loop-tf_sum l = length l.skips.left
