use Rattle.std.proofs.Common.{get_or, length, ◌-◌, ◌<◌, ◌≤◌, ℕ}
use Rattle.phrases.proofs.slop_costs.first_behind.Given as goal

-- what was passed isn't behind the position
abbrev pub invariant-loop-index : goal.invariant-loop-index
invariant-loop-index l = record {
  within : l.index ≤ length l.table;
  passed : (k : ℕ) → k < l.index → (get_or l.table k (0, 0)).0 ≤ l.position;
}

abbrev pub decreases-loop-index : goal.decreases-loop-index
decreases-loop-index l = length l.table - l.index

abbrev pub invariant-loop-index-2 : goal.invariant-loop-index-2
invariant-loop-index-2 l = record {
  within : l.index ≤ length l.table;
  passed : (k : ℕ) → k < l.index → (get_or l.table k (0, 0)).0 ≤ l.position;
}

abbrev pub decreases-loop-index-2 : goal.decreases-loop-index-2
decreases-loop-index-2 l = length l.table - l.index
