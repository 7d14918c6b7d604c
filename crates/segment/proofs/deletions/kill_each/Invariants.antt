use Rattle.std.proofs.Common.{take, ◌≡◌}
use Rattle.segment.specs.Killed.{before, killed}
use Rattle.segment.proofs.deletions.kill_each.Given as goal

abbrev pub invariant-loop-doc : goal.invariant-loop-doc
invariant-loop-doc l = l.alive ≡ killed (before l.end (take l.doc-index l.docs)) l.fn.alive
