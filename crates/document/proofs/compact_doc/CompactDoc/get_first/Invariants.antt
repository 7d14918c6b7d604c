use Rattle.std.proofs.Common.{◌≡◌, ◌==◌}
use Rattle.std.specs.List.{find}
use Rattle.document.proofs.compact_doc.CompactDoc.get_first.Given as goal

-- the pairs that were passed over are of other fields
abbrev pub invariant-loop-number : goal.invariant-loop-number
invariant-loop-number l =
    (goal.iterator-loop-number).can_next l.number-iterator
    × (goal.iterator-loop-number).is_finite l.number-iterator
    × (find (λ p. p.0 == l.field) l.number-iterator ≡ find (λ p. p.0 == l.field) l.self)
