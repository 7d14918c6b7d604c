-- What is left decides.
use Rattle.std.proofs.Common.{drop, nat_lt, ◌≡◌}
use Rattle.serde_json.specs.Data.{items_depth, members_depth}
use Rattle.serde_json.specs.View.{items_view, members_view}
use Rattle.schema.proofs.json_depth.+is_deeper.Given as goal

abbrev pub invariant-any_item_is_deeper-loop-item : goal.invariant-any_item_is_deeper-loop-item
invariant-any_item_is_deeper-loop-item l = nat_lt l.levels (items_depth (items_view (drop l.item-index l.items))) ≡ nat_lt l.levels (items_depth (items_view l.items))

abbrev pub invariant-any_member_is_deeper-loop-key : goal.invariant-any_member_is_deeper-loop-key
invariant-any_member_is_deeper-loop-key l = nat_lt l.levels (members_depth (members_view l._key-iterator)) ≡ nat_lt l.levels (members_depth (members_view l.members.entries))
