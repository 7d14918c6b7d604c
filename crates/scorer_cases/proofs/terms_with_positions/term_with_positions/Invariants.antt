use Rattle.std.proofs.Common.{None, ◌≡◌, ◌≤◌}
use Rattle.scorer_cases.proofs.terms_with_positions.term_with_positions.Given as goal

-- the next document may be written
abbrev pub invariant-loop-doc : goal.invariant-loop-doc
invariant-loop-doc l = (l.serializer.next ≤ l.next) × (l.serializer.norms ≡ None)
