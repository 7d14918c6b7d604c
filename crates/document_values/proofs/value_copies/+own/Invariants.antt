use Rattle.std.proofs.Common.{◌*◌, ◌++◌, ◌+◌, ◌≡◌, ◌≤◌}
use Rattle.definitions.specs.Values.{members_nesting, nesting, values_nesting}
use Rattle.document_values.specs.Owned.{owned_members, owned_values}
use Rattle.document_values.specs.Shown.{value_of}
use Rattle.layouts.specs.DocumentReading.{to_members, to_values}
use Rattle.document_values.proofs.value_copies.+own.Given as goal

abbrev pub decreases-own : goal.decreases-own
decreases-own l = 2 * nesting (value_of l.value)

abbrev pub decreases-own_values : goal.decreases-own_values
decreases-own_values l = 2 * values_nesting (to_values l.values) + 1

abbrev pub decreases-own_members : goal.decreases-own_members
decreases-own_members l = 2 * members_nesting (to_members l.members) + 1

-- what is copied so far, with the values that are left
abbrev pub invariant-own_values-loop-value : goal.invariant-own_values-loop-value
invariant-own_values-loop-value l =
    (goal.iterator-own_values-loop-value).can_next l.value-iterator
    × (goal.iterator-own_values-loop-value).is_finite l.value-iterator
    × (owned_values l.owned.items ++ l.value-iterator ≡ l.fn.values)
    × (values_nesting (to_values l.value-iterator) ≤ values_nesting (to_values l.fn.values))

-- likewise of members
abbrev pub invariant-own_members-loop-key : goal.invariant-own_members-loop-key
invariant-own_members-loop-key l =
    (goal.iterator-own_members-loop-key).can_next l.key-iterator
    × (goal.iterator-own_members-loop-key).is_finite l.key-iterator
    × (owned_members l.owned.items ++ l.key-iterator ≡ l.fn.members)
    × (members_nesting (to_members l.key-iterator) ≤ members_nesting (to_members l.fn.members))
