-- Each turn puts one field before those of later ones.
use Rattle.std.proofs.Common.{◌∙◌, ◌≡◌, ap, ap₂, rules, string_bytes, sym}
use Rattle.definitions.specs.Printed.{printed_list}
use Rattle.document.proofs.NamedForms.{before_empty, before_none, printed_before, put_from_back}
use Rattle.document.specs.NamedDocs.{named_field, named_of}
use Rattle.serde_json.proofs.Views.{members_view-insert_entry, view-Array, view-Object}
use Rattle.serde_json.specs.View.{items_view, members_view}
use Rattle.serde_json.specs.Data.{put}
use Rattle.serde_json.specs.Data as json
use Rattle.document.proofs.named_doc.NamedDocument.to_json_value.Goals as goal

pub loop-name-init : goal.loop-name-init
loop-name-init c =
    let rest : c.into_iter-name-iterator.result.iter.rest.now ≡ c.fields.result.now = ap (λ i. i.iter.rest.now) c.into_iter-name-iterator.ensures.into_iter_gives ∙ (ap (λ i. i.rest.now) c.rev-name-items.ensures.source ∙ c.iter.ensures.rest) in
    ap₂ (λ fields ms. printed_before fields (members_view ms)) (ap named_of rest ∙ c.fields.ensures) c.new-members.ensures.empty ∙ before_none c.args.self.now

pub loop-name-preserved : goal.loop-name-preserved
loop-name-preserved c =
    let fields = c.next.new.self.iter.rest.now in
    let before = members_view c.loop-name.members.entries in
    let named : string_bytes c.in_ok-key.key ≡ string_bytes c.in-Some.field-0.now.0 = search rules in
    let listed : items_view c.in_ok-list.list.items ≡ printed_list (named_field c.in-Some.field-0.now).1 = search rules in
    ap (λ es. printed_before (named_of fields) (members_view es)) c.in_ok-insert.ensures.entries
    ∙ (ap (printed_before (named_of fields)) (members_view-insert_entry c.loop-name.members.entries c.in_ok-key.key _
    ∙ ap₂ (λ k d. put k d before) named (view-Array c.in_ok-list.list ∙ ap json.array listed))
    ∙ (put_from_back fields c.in-Some.field-0.now before
    ∙ (ap (λ fs. printed_before (named_of fs) before) (sym c.in-Some.ensures.steps) ∙ c.loop-name.invariant)))

pub returns : goal.returns
returns c = view-Object c.loop-name.members ∙ ap json.object (sym (before_empty c.loop-name.name-iterator.iter.rest.now (members_view c.loop-name.members.entries) c.in-None.ensures.steps.0) ∙ c.loop-name.invariant)
