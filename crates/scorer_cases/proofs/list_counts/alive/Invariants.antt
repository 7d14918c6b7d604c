use Rattle.std.proofs.Common.{length, ◌≡◌}
use Rattle.scorer_cases.proofs.list_counts.alive.Given as goal

abbrev pub invariant-loop-doc : goal.invariant-loop-doc
invariant-loop-doc l = length l.alive ≡ l.num_docs
