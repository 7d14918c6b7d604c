use Rattle.std.proofs.Common.{◌≡◌}
use Rattle.definitions.specs.Calls.{has_unknown_field}
use Rattle.document.proofs.unknown_fields.has_unknown_field.Given as goal

-- what is left decides
abbrev pub invariant-loop-field : goal.invariant-loop-field
invariant-loop-field l =
    (goal.iterator-loop-field).can_next l.field-iterator
    × (goal.iterator-loop-field).is_finite l.field-iterator
    × (has_unknown_field l.schema l.field-iterator ≡ has_unknown_field l.schema l.doc)
