use Rattle.std.proofs.Common.{◌*◌, ◌++◌, ◌+◌, ◌≡◌, ◌≤◌}
use Rattle.definitions.specs.Values.{members_nesting, nesting, values_nesting}
use Rattle.document_values.specs.Shown.{value_of}
use Rattle.layouts.specs.DocumentReading.{to_members, to_values}
use Rattle.layouts.specs.DocumentBytes.{members_bytes, values_bytes}
use Rattle.document_values.proofs.value_writer.+put_value.Given as goal

abbrev pub decreases-put_value : goal.decreases-put_value
decreases-put_value l = 2 * nesting (value_of l.value)

abbrev pub decreases-put_array : goal.decreases-put_array
decreases-put_array l = 2 * values_nesting (to_values l.values) + 1

abbrev pub decreases-put_object : goal.decreases-put_object
decreases-put_object l = 2 * members_nesting (to_members l.members) + 1

-- what is put so far, with the values that are left
abbrev pub invariant-put_array-loop-value : goal.invariant-put_array-loop-value
invariant-put_array-loop-value l =
    (goal.iterator-put_array-loop-value).can_next l.value-iterator
    × (goal.iterator-put_array-loop-value).is_finite l.value-iterator
    × (l.out.items ++ values_bytes (to_values l.value-iterator) ≡ l.initial.out.items ++ values_bytes (to_values l.fn.values))
    × (values_nesting (to_values l.value-iterator) ≤ values_nesting (to_values l.fn.values))

-- likewise of members
abbrev pub invariant-put_object-loop-key : goal.invariant-put_object-loop-key
invariant-put_object-loop-key l =
    (goal.iterator-put_object-loop-key).can_next l.key-iterator
    × (goal.iterator-put_object-loop-key).is_finite l.key-iterator
    × (l.out.items ++ members_bytes (to_members l.key-iterator) ≡ l.initial.out.items ++ members_bytes (to_members l.fn.members))
    × (members_nesting (to_members l.key-iterator) ≤ members_nesting (to_members l.fn.members))
