use Rattle.std.proofs.Common.{take, ◌≡◌}
use Rattle.merging.specs.MergedNorms.{merged_ids}
use Rattle.merging.proofs.member_norms.living_ids.Given as goal

-- the ids in the members so far
abbrev pub invariant-loop-member : goal.invariant-loop-member
invariant-loop-member l = l.ids.items ≡ merged_ids l.field (take l.member-index l.members)
