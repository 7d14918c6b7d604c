use Rattle.std.proofs.Common.{length}
use Rattle.postings_cases.proofs.lookups.range.Given as goal

-- the terms that are left
abbrev pub decreases-loop-alloc : goal.decreases-loop-alloc
decreases-loop-alloc l = length l.terms.rest
