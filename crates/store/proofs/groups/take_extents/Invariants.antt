use Rattle.store.proofs.TakenGroups.{Taking}
use Rattle.store.proofs.groups.take_extents.Given as goal

abbrev pub invariant-loop-left : goal.invariant-loop-left
invariant-loop-left l = Taking l.fn.bytes l.fn.count l.fn.first_doc l.fn.first_byte l.fn.out.items l.out.items l.left l.doc l.byte l.rest

abbrev pub decreases-loop-left : goal.decreases-loop-left
decreases-loop-left l = l.left
