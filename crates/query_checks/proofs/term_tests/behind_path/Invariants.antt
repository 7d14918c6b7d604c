-- What is left has the same behind it.
use Rattle.std.proofs.Common.{length, ◌==◌, ◌≡◌}
use Rattle.std.specs.List.{after_first}
use Rattle.query_checks.proofs.term_tests.behind_path.Given as goal

abbrev pub invariant-loop-byte : goal.invariant-loop-byte
invariant-loop-byte l = after_first (◌==◌ 0) l.rest ≡ after_first (◌==◌ 0) l.bytes

abbrev pub decreases-loop-byte : goal.decreases-loop-byte
decreases-loop-byte l = length l.rest
