use Rattle.std.proofs.Common.{false, get_or, length, true, ◌-◌, ◌<◌, ◌≡◌, ◌≤◌}
use Rattle.front_coding.specs.BlockPlaces.{is_before, key_at}
use Rattle.front_coding.specs.declared.term_starts.TermStart.{TermStart}
use Rattle.front_coding.proofs.block_starts.by_halves.Given as goal

-- what stands before is at most the key, and what stands from the other end on above it
abbrev pub invariant-loop-low : goal.invariant-loop-low
invariant-loop-low l = record {
  ordered : l.low ≤ l.high;
  within : l.high ≤ length l.starts;
  lower : 0 < l.low → (d : TermStart) → is_before l.key (key_at l.section (get_or l.starts (l.low - 1) d).entry) ≡ false;
  upper : l.high < length l.starts → (d : TermStart) → is_before l.key (key_at l.section (get_or l.starts l.high d).entry) ≡ true;
}

abbrev pub decreases-loop-low : goal.decreases-loop-low
decreases-loop-low l = l.high - l.low
