use Rattle.std.proofs.Common.{◌++◌, ◌≡◌, drop}
use Rattle.definitions.specs.Values.{AreMembers, AreValues}
use Rattle.document_values.specs.Held.{AreSized, AreSizedMembers, held_members, held_values}
use Rattle.document_values.specs.Owned.{owned_members, owned_values}
use Rattle.layouts.specs.DocumentReading.{to_members, to_values}
use Rattle.document_values.proofs.held_values.+put_owned.Given as goal

-- what is put so far, with the values that are left
abbrev pub invariant-put_owned_values-loop-value : goal.invariant-put_owned_values-loop-value
invariant-put_owned_values-loop-value l =
    let rest = to_values (owned_values (drop l.value-index l.values)) in
    let all = to_values (owned_values l.values) in
    (l.out.items ++ held_values rest ≡ l.initial.out.items ++ held_values all) × (AreValues rest → AreValues all) × (AreSized rest → AreSized all)

-- likewise of members
abbrev pub invariant-put_owned_members-loop-key : goal.invariant-put_owned_members-loop-key
invariant-put_owned_members-loop-key l =
    let rest = to_members (owned_members (drop l.key-index l.members)) in
    let all = to_members (owned_members l.members) in
    (l.out.items ++ held_members rest ≡ l.initial.out.items ++ held_members all) × (AreMembers rest → AreMembers all) × (AreSizedMembers rest → AreSizedMembers all)
