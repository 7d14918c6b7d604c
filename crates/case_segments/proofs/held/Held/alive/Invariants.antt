use Rattle.std.proofs.Common.{length, ◌≡◌}
use Rattle.case_segments.proofs.held.Held.alive.Given as goal

-- there is a flag for each document
abbrev pub invariant-loop-doc : goal.invariant-loop-doc
invariant-loop-doc l = length l.alive ≡ l.num_docs
