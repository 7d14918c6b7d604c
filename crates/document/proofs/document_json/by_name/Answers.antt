-- Each turn puts the last field that is left before those of later ones, where it has a value.
use Rattle.std.proofs.Common.{[], ap, arith, length, option_map, rules, slice_get, sym, ◌<◌, ◌∙◌, ◌∷◌, ◌≡◌}
use Rattle.std.proofs.lemmas.List.{length-append}
use Rattle.document.proofs.LentFields.{empty_before, fields_insert, list_before, lists_counted, lists_more, named_none, values_counted}
use Rattle.document.proofs.NamedForms.{before_none, printed_before}
use Rattle.document.specs.FieldLists.{lent_fields, lent_lists, lent_values}
use Rattle.document.specs.NamedDocs.{named_lists}
use Rattle.document.proofs.document_json.by_name.Goals as goal

pub loop-values-init : goal.loop-values-init
loop-values-init c =
    let all = named_lists c.args.schema.now (lent_lists c.args.lists.items) in
    let each = c.requires.each in
    (omega (arith, each), ap (λ fs. printed_before all (lent_fields fs)) c.new-fields.ensures.empty ∙ before_none all)

pub loop-values-preserved-then-not-is_empty : goal.loop-values-preserved-then-not-is_empty
loop-values-preserved-then-not-is_empty c =
    let schema = c.args.schema.now in
    let l = c.loop-values in
    let left = c.pop.new.self.items in
    let values = c.in-Some.values in
    let few = l.invariant.0 in
    let whole = c.in-Some.ensures.items in
    let long = ap length whole ∙ length-append left (values ∷ []) in
    let some : 0 < length values.items = search (rules, arith) in
    let lists = lists_counted left in
    let lent = values_counted values.items in
    let at : length left ≡ c.from_field_id-field.result = grind (arith, rules) in (
      omega (arith, long, few),
      ap (printed_before (named_lists schema (lent_lists left))) (ap lent_fields c.in_ok-insert.ensures.entries ∙ fields_insert l.fields.entries c.get_field_name.result values)
          ∙ list_before schema (lent_lists left) c.get_field_name.result.now (lent_values values.items) (lent_fields l.fields.entries) (omega (arith, long, few, lists)) (omega (arith, some, lent)) (ap (λ k. option_map (λ f. f.name) (slice_get schema k)) (lists ∙ at) ∙ c.get_field_name.ensures)
          ∙ ap (λ ls. printed_before (named_lists schema ls) (lent_fields l.fields.entries)) (sym (lists_more left l.left.items values whole))
          ∙ l.invariant.1,
    )

pub loop-values-preserved : goal.loop-values-preserved
loop-values-preserved c =
    let schema = c.args.schema.now in
    let l = c.loop-values in
    let left = c.pop.new.self.items in
    let values = c.in-Some.values in
    let few = l.invariant.0 in
    let whole = c.in-Some.ensures.items in
    let long = ap length whole ∙ length-append left (values ∷ []) in
    let none : length values.items ≡ 0 = search (rules, arith) in
    let lists = lists_counted left in
    let lent = values_counted values.items in (
      omega (arith, long, few),
      empty_before schema (lent_lists left) (lent_values values.items) (lent_fields l.fields.entries) (omega (arith, long, few, lists)) (omega (arith, none, lent))
          ∙ ap (λ ls. printed_before (named_lists schema ls) (lent_fields l.fields.entries)) (sym (lists_more left l.left.items values whole))
          ∙ l.invariant.1,
    )

pub returns : goal.returns
returns c =
    let schema = c.args.schema.now in
    let l = c.loop-values in
    let none : l.left.items ≡ [] = search rules in
    ap (λ fs. printed_before fs (lent_fields l.fields.entries)) (sym (ap (λ ls. named_lists schema (lent_lists ls)) none ∙ named_none schema)) ∙ l.invariant.1
