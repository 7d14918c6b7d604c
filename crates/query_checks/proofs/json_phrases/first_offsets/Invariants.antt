-- The offsets so far are as many as there are, and no more than asked for.
use Rattle.std.proofs.Common.{length, ◌-◌, ◌≡◌, ◌≤◌}
use Rattle.std.specs.List.{range_with_len}
use Rattle.query_checks.proofs.json_phrases.first_offsets.Given as goal

abbrev pub invariant-loop-offsets : goal.invariant-loop-offsets
invariant-loop-offsets l = (l.offsets.items ≡ range_with_len 0 (length l.offsets.items)) × (length l.offsets.items ≤ l.count)

abbrev pub decreases-loop-offsets : goal.decreases-loop-offsets
decreases-loop-offsets l = l.count - length l.offsets.items
