use Rattle.std.proofs.Common.{map, take, ◌≡◌}
use Rattle.segment.specs.Members.{member_of, with_lengths}
use Rattle.segment.proofs.merged_norms.member_norms.Given as goal

-- the lengths of the members so far
abbrev pub invariant-loop-member : goal.invariant-loop-member
invariant-loop-member l = map (λ n. (n.norms, n.alive.now)) l.lengths.items ≡ map (λ m. with_lengths (member_of m)) (take l.member-index l.members)
