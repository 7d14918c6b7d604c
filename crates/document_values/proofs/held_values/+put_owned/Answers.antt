use Rattle.std.proofs.Common.{[], ◌++◌, ◌+◌, ◌<◌, ◌^◌, ◌∷◌, ◌≡◌, ◌∙◌, OnOk, ap, arith, drop, length, rules, string_bytes, subst, sym}
use Rattle.std.proofs.lemmas.List.{drop_all, drop_more}
use Rattle.definitions.specs.NumberCodes.{sized_bytes}
use Rattle.definitions.specs.Values.{object}
use Rattle.document_values.specs.Held.{IsHeldValue, held_bytes}
use Rattle.document_values.specs.Owned.{owned_members, owned_value}
use Rattle.layouts.specs.DocumentReading.{to_members}
use Rattle.document_values.proofs.OwnedParts.{Member, member_is, member_put, member_sized, members_held, members_put, object_seen, values_held, values_put}
use Rattle.document_values.proofs.held_values.+put_owned.Goals as goal

pub put_owned-returns-in-Object-clause-put : goal.put_owned-returns-in-Object-clause-put
put_owned-returns-in-Object-clause-put t c =
    let seen : object (to_members (owned_members c.as_slice-in-Object.result.now)) ≡ owned_value c.args.value.now = ap (λ ms. object (to_members (owned_members ms))) c.as_slice-in-Object.ensures.value ∙ sym (object_seen c.in-Object.members) ∙ ap owned_value (sym c.in-Object.is) in
    subst (λ v. OnOk c.put_owned_members.result (c.put_owned_members.new.out.items ≡ c.args.out.now.items ++ held_bytes v)) seen c.put_owned_members.ensures.put

pub put_owned-returns-in-Object-clause-held : goal.put_owned-returns-in-Object-clause-held
put_owned-returns-in-Object-clause-held t c =
    let seen : object (to_members (owned_members c.as_slice-in-Object.result.now)) ≡ owned_value c.args.value.now = ap (λ ms. object (to_members (owned_members ms))) c.as_slice-in-Object.ensures.value ∙ sym (object_seen c.in-Object.members) ∙ ap owned_value (sym c.in-Object.is) in
    subst (λ v. OnOk c.put_owned_members.result (IsHeldValue v)) seen c.put_owned_members.ensures.held

pub put_owned_members-loop-key-preserved : goal.put_owned_members-loop-key-preserved
put_owned_members-loop-key-preserved t c =
    let l = c.loop-key in
    let ms = c.args.members.now in
    let m : Member = c.loop-key-item.result in
    let rest = drop (l.key-index + 1) ms in
    let here : drop l.key-index ms ≡ m ∷ rest = drop_more ms l.key-index m (omega arith) ∙ ap (λ y. y ∷ rest) (sym c.loop-key-item.is) in
    let key : c.put_bytes.new.out.items ≡ l.out.items ++ sized_bytes (string_bytes m.0) = search rules in
    let short : length (string_bytes m.0) < 2 ^ 64 = search rules in
    let held = c.in_ok-put_owned.ensures.held in (
      member_put m rest (drop l.key-index ms) l.out.items c.put_bytes.new.out.items c.put_owned.new.out.items _ here key c.in_ok-put_owned.ensures.put l.invariant.0,
      (λ are. l.invariant.1 (member_is m rest (drop l.key-index ms) here held are)),
      (λ sized. l.invariant.2 (member_sized m rest (drop l.key-index ms) here short held sized)),
    )

pub put_owned_members-returns-clause-put : goal.put_owned_members-returns-clause-put
put_owned_members-returns-clause-put t c =
    let l = c.loop-key in
    let none : drop l.key-index c.args.members.now ≡ [] = drop_all l.key-index c.args.members.now (omega arith) in
    members_put c.args.out.now.items c.push.new.self.items c.put_vint.new.out.items l.out.items _ l.key-index c.args.members.now c.in_ok-push.ensures.items c.in_ok-put_vint.ensures.ok (search rules) l.invariant.0 none

pub put_owned_members-returns-clause-held : goal.put_owned_members-returns-clause-held
put_owned_members-returns-clause-held t c =
    let l = c.loop-key in
    let none : drop l.key-index c.args.members.now ≡ [] = drop_all l.key-index c.args.members.now (omega arith) in
    let few : length c.args.members.now < 2 ^ 64 = search rules in
    members_held (drop l.key-index c.args.members.now) c.args.members.now none few l.invariant.1 l.invariant.2

pub put_owned_values-returns-clause-put : goal.put_owned_values-returns-clause-put
put_owned_values-returns-clause-put t c =
    let l = c.loop-value in
    let none : drop l.value-index c.args.values.now ≡ [] = drop_all l.value-index c.args.values.now (omega arith) in
    values_put c.args.out.now.items c.push.new.self.items c.put_vint.new.out.items l.out.items _ l.value-index c.args.values.now c.in_ok-push.ensures.items c.in_ok-put_vint.ensures.ok (search rules) l.invariant.0 none

pub put_owned_values-returns-clause-held : goal.put_owned_values-returns-clause-held
put_owned_values-returns-clause-held t c =
    let l = c.loop-value in
    let none : drop l.value-index c.args.values.now ≡ [] = drop_all l.value-index c.args.values.now (omega arith) in
    let few : length c.args.values.now < 2 ^ 64 = search rules in
    values_held (drop l.value-index c.args.values.now) c.args.values.now none few l.invariant.1 l.invariant.2
