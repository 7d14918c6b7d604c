-- What is left decides.
use Rattle.std.proofs.Common.{drop, nat_lt, ◌≡◌}
use Rattle.definitions.specs.Values.{members_nesting, values_nesting}
use Rattle.document_values.specs.Owned.{owned_members, owned_values}
use Rattle.layouts.specs.DocumentReading.{to_members, to_values}
use Rattle.document_values.proofs.depths.+is_deeper.Given as goal

abbrev pub invariant-any_value_is_deeper-loop-value : goal.invariant-any_value_is_deeper-loop-value
invariant-any_value_is_deeper-loop-value l = nat_lt l.levels (values_nesting (to_values (owned_values (drop l.value-index l.values)))) ≡ nat_lt l.levels (values_nesting (to_values (owned_values l.values)))

abbrev pub invariant-any_member_is_deeper-loop-key : goal.invariant-any_member_is_deeper-loop-key
invariant-any_member_is_deeper-loop-key l = nat_lt l.levels (members_nesting (to_members (owned_members (drop l._key-index l.members)))) ≡ nat_lt l.levels (members_nesting (to_members (owned_members l.members)))
