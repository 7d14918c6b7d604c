use Rattle.scorers.specs.Windows.{IsClearing}
use Rattle.scorers.proofs.window.clear_word.Given as goal

-- the slots of the bits that are left are to be cleared
abbrev pub invariant-loop-left : goal.invariant-loop-left
invariant-loop-left g l = IsClearing g.C.ScoreCombiner.answer g.C.ScoreCombiner.total l.fresh l.at l.limit l.present l.fn.slots.items l.slots.items l.left

abbrev pub decreases-loop-left : goal.decreases-loop-left
decreases-loop-left g l = l.left
