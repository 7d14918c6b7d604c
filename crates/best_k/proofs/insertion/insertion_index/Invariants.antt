use Rattle.std.proofs.Common.{length, ◌-◌, ◌<◌, ◌≤◌, ℕ}
use Rattle.best_k.specs.Kept.{score_at}
use Rattle.best_k.proofs.insertion.insertion_index.Given as goal

-- what stands before an index isn't lower, and what stands from another on is
abbrev pub invariant-loop-low : goal.invariant-loop-low
invariant-loop-low l = record {
  ordered : l.low ≤ l.high;
  within : l.high ≤ length l.hits;
  before : (i : ℕ) → i < l.low → l.score ≤ score_at l.hits i;
  behind : (i : ℕ) → l.high ≤ i → i < length l.hits → score_at l.hits i < l.score;
}

abbrev pub decreases-loop-low : goal.decreases-loop-low
decreases-loop-low l = l.high - l.low
