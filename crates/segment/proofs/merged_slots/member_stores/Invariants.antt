use Rattle.std.proofs.Common.{map, take, ◌≡◌}
use Rattle.segment.specs.Members.{member_of}
use Rattle.segment.specs.Slots.{with_blocks}
use Rattle.segment.proofs.merged_slots.member_stores.Given as goal

-- the stores of the members so far
abbrev pub invariant-loop-member : goal.invariant-loop-member
invariant-loop-member l = map (λ s. (s.store.now.blocks, s.alive.now)) l.stores.items ≡ map (λ m. with_blocks (member_of m)) (take l.member-index l.members)
