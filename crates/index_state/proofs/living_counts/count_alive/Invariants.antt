-- How many documents of the sets so far are alive, and a bound of it.
use Rattle.std.proofs.Common.{sum_by, take, ◌*◌, ◌≡◌, ◌≤◌}
use Rattle.common.specs.BitSets.{count_set}
use Rattle.index_state.proofs.living_counts.count_alive.Given as goal

abbrev pub invariant-loop-set : goal.invariant-loop-set
invariant-loop-set l = (l.count ≡ sum_by count_set (take l.set-index l.alive)) × (l.count ≤ l.set-index * 4294967296)
