use Rattle.std.proofs.Common.{◌*◌, ◌++◌, ◌+◌, ◌≡◌, ◌≤◌, map}
use Rattle.definitions.specs.Stored.{plain}
use Rattle.definitions.specs.Values.{members_nesting, nesting, values_nesting}
use Rattle.document_values.specs.Owned.{owned_members, owned_values}
use Rattle.document_values.specs.Shown.{value_of}
use Rattle.layouts.specs.DocumentReading.{to_members, to_values}
use Rattle.document_values.proofs.stored_values.+store.Given as goal

abbrev pub decreases-stored_value : goal.decreases-stored_value
decreases-stored_value l = 2 * nesting (value_of l.value)

abbrev pub decreases-stored_values : goal.decreases-stored_values
decreases-stored_values l = 2 * values_nesting (to_values l.values) + 1

abbrev pub decreases-stored_members : goal.decreases-stored_members
decreases-stored_members l = 2 * members_nesting (to_members l.members) + 1

-- what is copied so far, with the values that are left
abbrev pub invariant-stored_values-loop-value : goal.invariant-stored_values-loop-value
invariant-stored_values-loop-value l =
    (goal.iterator-stored_values-loop-value).can_next l.value-iterator
    × (goal.iterator-stored_values-loop-value).is_finite l.value-iterator
    × (owned_values l.stored.items ++ map plain l.value-iterator ≡ map plain l.fn.values)
    × (values_nesting (to_values l.value-iterator) ≤ values_nesting (to_values l.fn.values))

-- likewise of members
abbrev pub invariant-stored_members-loop-key : goal.invariant-stored_members-loop-key
invariant-stored_members-loop-key l =
    (goal.iterator-stored_members-loop-key).can_next l.key-iterator
    × (goal.iterator-stored_members-loop-key).is_finite l.key-iterator
    × (owned_members l.stored.items ++ map (λ m. (m.0, plain m.1)) l.key-iterator ≡ map (λ m. (m.0, plain m.1)) l.fn.members)
    × (members_nesting (to_members l.key-iterator) ≤ members_nesting (to_members l.fn.members))
