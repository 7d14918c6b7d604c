use Rattle.std.proofs.Common.{◌+◌, ◌≡◌, length}
use Rattle.definitions.specs.Stored.{stored_pairs}
use Rattle.document.proofs.compact_doc.CompactDoc.stored_count.Given as goal

-- all pairs but those that were passed over and are of other fields
abbrev pub invariant-loop-field : goal.invariant-loop-field
invariant-loop-field l =
    (goal.iterator-loop-field).can_next l.field-iterator
    × (goal.iterator-loop-field).is_finite l.field-iterator
    × (l.stored + length (stored_pairs l.schema l.field-iterator) ≡ length l.field-iterator + length (stored_pairs l.schema l.self))
