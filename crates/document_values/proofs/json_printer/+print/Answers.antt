-- Each part is printed, and put where it belongs.
use Rattle.std.proofs.Common.{◌+◌, ◌∙◌, ◌∷◌, ◌≡◌, ap, ap₂, arith, drop, map, rules, string_bytes, sym}
use Rattle.std.proofs.lemmas.Grind.{common_steps}
use Rattle.std.proofs.lemmas.List.{drop_more}
use Rattle.definitions.specs.Printed.{printed, printed_list, printed_onto}
use Rattle.document_values.specs.Owned.{owned_members, owned_value, owned_values}
use Rattle.layouts.specs.DocumentReading.{to_members}
use Rattle.document_values.proofs.OwnedParts.{Member, object_seen}
use Rattle.document_values.proofs.PrintedParts.{array_seen, items_of_values, printed_listed}
use Rattle.serde_json.proofs.Views.{members_view-insert_entry, view-Array, view-Object}
use Rattle.serde_json.specs.Data.{put}
use Rattle.serde_json.specs.Data as json
use Rattle.serde_json.specs.View.{items_of, members_view, view}
use Rattle.document_values.proofs.json_printer.+print.Goals as goal

pub values_to_json-returns : goal.values_to_json-returns
values_to_json-returns t c =
    let all : map view c.loop-value.items.items ≡ map (λ v. printed (owned_value v)) c.args.values.now = grind (arith, common_steps) in
    ap items_of all ∙ items_of_values c.args.values.now

pub print_value-returns-in_ok-values_to_json-in-Array : goal.print_value-returns-in_ok-values_to_json-in-Array
print_value-returns-in_ok-values_to_json-in-Array t c =
    view-Array c.in_ok-values_to_json-in-Array.field-0
    ∙ ap json.array (c.in_ok-values_to_json-in-Array.ensures ∙ ap (λ vs. printed_list (owned_values vs)) c.as_slice-in-Array.ensures.value ∙ printed_listed (owned_values c.in-Array.values.items))
    ∙ ap printed (sym (array_seen c.in-Array.values) ∙ ap owned_value (sym c.in-Array.is))

pub print_value-returns-in_ok-members_to_json-in-Object : goal.print_value-returns-in_ok-members_to_json-in-Object
print_value-returns-in_ok-members_to_json-in-Object t c =
    view-Object c.in_ok-members_to_json-in-Object.field-0
    ∙ ap json.object (c.in_ok-members_to_json-in-Object.ensures ∙ ap (λ ms. printed_onto json.no_members (to_members (owned_members ms))) c.as_slice-in-Object.ensures.value)
    ∙ ap printed (sym (object_seen c.in-Object.members) ∙ ap owned_value (sym c.in-Object.is))

pub members_to_json-loop-key-preserved : goal.members_to_json-loop-key-preserved
members_to_json-loop-key-preserved t c =
    let l = c.loop-key in
    let ms = c.args.members.now in
    let m : Member = c.loop-key-item.result in
    let left = to_members (owned_members (drop (l.key-index + 1) ms)) in
    let here : drop l.key-index ms ≡ m ∷ drop (l.key-index + 1) ms = drop_more ms l.key-index m (omega arith) ∙ ap (λ y. y ∷ drop (l.key-index + 1) ms) (sym c.loop-key-item.is) in
    let named : string_bytes c.in_ok-name.name ≡ string_bytes m.0 = search rules in
    let shown : view c.in_ok-print_value.field-0 ≡ printed (owned_value m.1) = c.in_ok-print_value.ensures in
    let before = members_view l.printed.entries in
    ap (λ es. printed_onto (members_view es) left) c.in_ok-insert.ensures.entries
    ∙ ap (λ b. printed_onto b left) (members_view-insert_entry l.printed.entries c.in_ok-name.name c.in_ok-print_value.field-0 ∙ ap₂ (λ k d. put k d before) named shown)
    ∙ ap (λ r. printed_onto before (to_members (owned_members r))) (sym here)
    ∙ l.invariant
