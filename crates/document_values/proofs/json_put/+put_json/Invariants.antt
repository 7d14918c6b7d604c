-- What was put and what is left make the whole, and the whole can be held where what is left can be.
use Rattle.std.proofs.Common.{◌++◌, ◌≡◌, drop}
use Rattle.definitions.specs.Reading.{json_members, json_values}
use Rattle.definitions.specs.Values.{AreMembers, AreValues}
use Rattle.document_values.specs.Held.{AreSized, AreSizedMembers, held_members, held_values}
use Rattle.serde_json.specs.View.{items_view, members_view}
use Rattle.document_values.proofs.json_put.+put_json.Given as goal

abbrev pub invariant-put_items-loop-item : goal.invariant-put_items-loop-item
invariant-put_items-loop-item l =
    let rest = json_values (items_view (drop l.item-index l.items)) in
    let all = json_values (items_view l.items) in
    (l.out.items ++ held_values rest ≡ l.initial.out.items ++ held_values all) × (AreValues rest → AreValues all) × (AreSized rest → AreSized all)

abbrev pub invariant-put_members-loop-key : goal.invariant-put_members-loop-key
invariant-put_members-loop-key l =
    let rest = json_members (members_view l.key-iterator) in
    let all = json_members (members_view l.members.entries) in
    (l.out.items ++ held_members rest ≡ l.initial.out.items ++ held_members all) × (AreMembers rest → AreMembers all) × (AreSizedMembers rest → AreSizedMembers all)
