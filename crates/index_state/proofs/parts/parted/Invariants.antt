use Rattle.std.proofs.Common.{length, map, ◌++◌, ◌≡◌}
use Rattle.index_state.specs.Parts.{flags_in, segment_in}
use Rattle.index_state.proofs.parts.parted.Given as goal

-- those so far and those left make all
abbrev pub invariant-loop-member : goal.invariant-loop-member
invariant-loop-member l = (l.segments.items ++ map segment_in l.left.items ≡ map segment_in l.fn.members.items) × (l.sets.items ++ map flags_in l.left.items ≡ map flags_in l.fn.members.items)

abbrev pub decreases-loop-member : goal.decreases-loop-member
decreases-loop-member l = length l.left.items
