-- The bytes that are left decide.
use Rattle.std.proofs.Common.{drop, false, ◌≡◌}
use Rattle.query_text.specs.Operators.{is_doubled}
use Rattle.query_text.proofs.operators.is_doubled.Given as goal

abbrev pub invariant-loop-other : goal.invariant-loop-other
invariant-loop-other l = is_doubled l.byte l.before (drop l.other-index l.text) ≡ is_doubled l.byte false l.text
