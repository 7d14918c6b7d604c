use Rattle.std.proofs.Common.{map, take, ◌≡◌}
use Rattle.std.specs.List.{zip}
use Rattle.segment.specs.Members.{member_of}
use Rattle.segment.proofs.member_segments.members_of_lists.Given as goal

-- the members so far
abbrev pub invariant-loop-index : goal.invariant-loop-index
invariant-loop-index l = map member_of l.members.items ≡ zip (take l.index l.segments) (take l.index l.sets)
