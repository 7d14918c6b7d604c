use Rattle.std.proofs.Common.{◌≡◌}
use Rattle.definitions.specs.Indexable.{is_indexable}
use Rattle.document.proofs.compact_doc.CompactDoc.indexable.Given as goal

-- what is left decides
abbrev pub invariant-loop-field : goal.invariant-loop-field
invariant-loop-field l =
    (goal.iterator-loop-field).can_next l.field-iterator
    × (goal.iterator-loop-field).is_finite l.field-iterator
    × (is_indexable l.schema l.field-iterator ≡ is_indexable l.schema l.self)
