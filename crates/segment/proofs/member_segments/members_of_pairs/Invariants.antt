use Rattle.std.proofs.Common.{map, take, ◌≡◌}
use Rattle.segment.specs.Members.{member_of}
use Rattle.segment.proofs.member_segments.members_of_pairs.Given as goal

-- the members so far
abbrev pub invariant-loop-pair : goal.invariant-loop-pair
invariant-loop-pair l = map member_of l.members.items ≡ take l.pair-index l.pairs
