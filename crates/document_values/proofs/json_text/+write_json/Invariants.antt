use Rattle.std.proofs.Common.{◌*◌, ◌++◌, ◌+◌, ◌≡◌, ◌≤◌}
use Rattle.definitions.specs.Printed.{printed, printed_values}
use Rattle.document_values.specs.Shown.{value_of}
use Rattle.document_values.specs.WrittenJson.{lent_members}
use Rattle.json.specs.Tree.{items_tokens, members_tokens}
use Rattle.layouts.specs.DocumentReading.{to_values}
use Rattle.serde_json.specs.Data.{depth, items_depth, members_depth}
use Rattle.serde_json.specs.Written.{items_outline, members_outline}
use Rattle.document_values.proofs.json_text.+write_json.Given as goal

abbrev pub decreases-write_value : goal.decreases-write_value
decreases-write_value l = 2 * depth (printed (value_of l.value))

abbrev pub decreases-write_array : goal.decreases-write_array
decreases-write_array l = 2 * items_depth (printed_values (to_values l.values)) + 1

abbrev pub decreases-write_object : goal.decreases-write_object
decreases-write_object l = 2 * members_depth (lent_members l.members.entries) + 1

-- what is written so far, with the values that are left
abbrev pub invariant-write_array-loop-value : goal.invariant-write_array-loop-value
invariant-write_array-loop-value l =
    (goal.iterator-write_array-loop-value).can_next l.value-iterator
    × (goal.iterator-write_array-loop-value).is_finite l.value-iterator
    × (l.out.before ≡ l.initial.out.before)
    × (l.out.tokens ++ items_tokens (items_outline (printed_values (to_values l.value-iterator))) ≡ l.initial.out.tokens ++ items_tokens (items_outline (printed_values (to_values l.fn.values))))
    × (items_depth (printed_values (to_values l.value-iterator)) ≤ items_depth (printed_values (to_values l.fn.values)))

-- likewise of members
abbrev pub invariant-write_object-loop-key : goal.invariant-write_object-loop-key
invariant-write_object-loop-key l =
    (l.out.before ≡ l.initial.out.before)
    × (l.out.tokens ++ members_tokens (members_outline (lent_members l.key-iterator)) ≡ l.initial.out.tokens ++ members_tokens (members_outline (lent_members l.fn.members.entries)))
    × (members_depth (lent_members l.key-iterator) ≤ members_depth (lent_members l.fn.members.entries))
