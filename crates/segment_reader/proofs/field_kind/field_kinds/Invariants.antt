use Rattle.std.proofs.Common.{map, ◌++◌, ◌≡◌}
use Rattle.segment_reader.proofs.FieldsKept.{kinds_left}
use Rattle.segment_reader.specs.FieldKinds.{kinds_of, shown}
use Rattle.segment_reader.proofs.field_kind.field_kinds.Given as goal

abbrev pub invariant-loop-field : goal.invariant-loop-field
invariant-loop-field l =
    goal.iterator-loop-field.can_next l.field-iterator ×
    goal.iterator-loop-field.is_finite l.field-iterator ×
    (map shown l.kinds.items ++ kinds_left l.field-iterator ≡ kinds_of l.schema)
