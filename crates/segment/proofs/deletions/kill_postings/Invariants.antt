use Rattle.std.proofs.Common.{length, ◌<◌, ◌≡◌}
use Rattle.std.specs.List.{AllByRecursion}
use Rattle.segment.specs.Killed.{before, killed}
use Rattle.segment_postings.specs.Cursors.{docs_left}
use Rattle.segment.proofs.deletions.kill_postings.Given as goal

abbrev pub invariant-loop-left : goal.invariant-loop-left
invariant-loop-left l = record {
  within : AllByRecursion (λ doc. doc < length l.alive) (docs_left l.left);
  killed : killed (before l.end (docs_left l.left)) l.alive ≡ killed (before l.end (docs_left l.fn.postings)) l.fn.alive;
}

abbrev pub decreases-loop-left : goal.decreases-loop-left
decreases-loop-left l = length (docs_left l.left)
