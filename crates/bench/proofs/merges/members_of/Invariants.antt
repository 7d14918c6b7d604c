use Rattle.segment.specs.Members.{AreOpened}
use Rattle.bench.proofs.merges.members_of.Given as goal

-- the members so far
abbrev pub invariant-loop-part : goal.invariant-loop-part
invariant-loop-part l = AreOpened l.schema l.members.items
