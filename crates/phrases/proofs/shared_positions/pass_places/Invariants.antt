use Rattle.std.proofs.Common.{length, slice_index, ◌+◌, ◌-◌, ◌<◌, ◌≤◌, ℕ}
use Rattle.phrases.proofs.shared_positions.pass_places.Given as goal

-- all so far are below the position
abbrev pub invariant-loop-step : goal.invariant-loop-step
invariant-loop-step l = record {
  some : 0 < l.step;
  from : l.start ≤ l.index;
  within : l.index < length l.places;
  passed : (k : ℕ) → l.start ≤ k → k < l.index → slice_index l.places k + l.moved < l.position;
}

abbrev pub decreases-loop-step : goal.decreases-loop-step
decreases-loop-step l = length l.places - l.index
