use Rattle.segment.specs.Members.{AreOpened}
use Rattle.segment_cases.proofs.merged_segments.members.Given as goal

-- the members so far
abbrev pub invariant-loop-member : goal.invariant-loop-member
invariant-loop-member l = AreOpened l.schema l.members.items
