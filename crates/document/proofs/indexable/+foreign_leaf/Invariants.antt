use Rattle.std.proofs.Common.{Some, nat_le, ◌*◌, ◌+◌, ◌||◌, ◌≡◌}
use Rattle.definitions.specs.Indexable.{have_foreign_leaf, members_have_foreign_leaf}
use Rattle.definitions.specs.Json.{only_if}
use Rattle.definitions.specs.Values.{members_nesting, values_nesting}
use Rattle.layouts.specs.DocumentReading.{to_members, to_values}
use Rattle.document.proofs.indexable.+foreign_leaf.Given as goal

abbrev pub decreases-foreign_leaf : goal.decreases-foreign_leaf
decreases-foreign_leaf l = 2 * l.depth

abbrev pub decreases-foreign_value : goal.decreases-foreign_value
decreases-foreign_value l = 2 * l.depth + 1

abbrev pub decreases-foreign_member : goal.decreases-foreign_member
decreases-foreign_member l = 2 * l.depth + 1

-- what is found so far, with the values that are left
abbrev pub invariant-foreign_value-loop-value : goal.invariant-foreign_value-loop-value
invariant-foreign_value-loop-value l =
    let rest = to_values l.value-iterator in
    let all = to_values l.fn.values in
    (goal.iterator-foreign_value-loop-value).can_next l.value-iterator
    × (goal.iterator-foreign_value-loop-value).is_finite l.value-iterator
    × (only_if (nat_le (values_nesting rest) l.depth) (Some (have_foreign_leaf rest || l.found)) ≡ only_if (nat_le (values_nesting all) l.depth) (Some (have_foreign_leaf all)))

-- likewise of members
abbrev pub invariant-foreign_member-loop-value : goal.invariant-foreign_member-loop-value
invariant-foreign_member-loop-value l =
    let rest = to_members l.value-iterator in
    let all = to_members l.fn.members in
    (goal.iterator-foreign_member-loop-value).can_next l.value-iterator
    × (goal.iterator-foreign_member-loop-value).is_finite l.value-iterator
    × (only_if (nat_le (members_nesting rest) l.depth) (Some (members_have_foreign_leaf rest || l.found)) ≡ only_if (nat_le (members_nesting all) l.depth) (Some (members_have_foreign_leaf all)))
