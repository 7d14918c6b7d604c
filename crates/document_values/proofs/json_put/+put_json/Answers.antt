-- The count and what stands inside make an array or an object.
use Rattle.std.proofs.Common.{◌++◌, ◌<◌, ◌^◌, ◌∙◌, ◌∷◌, ap, append_assoc, length, subst, sym}
use Rattle.definitions.specs.NumberCodes.{vint_bytes}
use Rattle.definitions.specs.Reading.{json_members, json_values}
use Rattle.document_values.specs.Held.{held_members, held_values}
use Rattle.document_values.proofs.JsonParts.{items_counted, members_counted}
use Rattle.serde_json.specs.View.{items_view, members_view}
use Rattle.document_values.proofs.json_put.+put_json.Goals as goal

pub put_array-returns-clause-put : goal.put_array-returns-clause-put
put_array-returns-clause-put t c =
    let out = c.args.out.now.items in
    let held = held_values (json_values (items_view c.args.items.now)) in
    c.in_ok-put_items.ensures.put
    ∙ ap (λ l. l ++ held) c.in_ok-put_head.ensures.put
    ∙ append_assoc out (12 ∷ vint_bytes (length c.args.items.now)) held
    ∙ ap (λ n. out ++ 12 ∷ (vint_bytes n ++ held)) (sym (items_counted c.args.items.now))

pub put_array-returns-clause-held : goal.put_array-returns-clause-held
put_array-returns-clause-held t c =
    let few = subst (λ n. n < 2 ^ 64) (sym (items_counted c.args.items.now)) c.put_head.ensures.few in
    (c.in_ok-put_items.ensures.values, (few, c.in_ok-put_items.ensures.sized))

pub put_object-returns-clause-put : goal.put_object-returns-clause-put
put_object-returns-clause-put t c =
    let out = c.args.out.now.items in
    let held = held_members (json_members (members_view c.args.members.now.entries)) in
    let counted = c.len.ensures.len ∙ sym (members_counted c.args.members.now.entries) in
    c.in_ok-put_members.ensures.put
    ∙ ap (λ l. l ++ held) c.in_ok-put_head.ensures.put
    ∙ append_assoc out (13 ∷ vint_bytes c.len.result) held
    ∙ ap (λ n. out ++ 13 ∷ (vint_bytes n ++ held)) counted

pub put_object-returns-clause-held : goal.put_object-returns-clause-held
put_object-returns-clause-held t c =
    let counted = c.len.ensures.len ∙ sym (members_counted c.args.members.now.entries) in
    let few = subst (λ n. n < 2 ^ 64) counted c.put_head.ensures.few in
    (c.in_ok-put_members.ensures.members, (few, c.in_ok-put_members.ensures.sized))
