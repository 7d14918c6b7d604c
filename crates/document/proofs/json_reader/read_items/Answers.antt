-- An element that is refused ends the reading.
use Rattle.std.proofs.Common.{◌+◌, ◌∙◌, ◌∷◌, List, Result, ap, drop, sym}
use Rattle.std.proofs.lemmas.List.{at_drop_more}
use Rattle.std.proofs.lemmas.Result.{err_from_is_err_and}
use Rattle.definitions.specs.Reading.{read_items}
use Rattle.definitions.specs.Values.{Document}
use Rattle.definitions.specs.declared.fault.Fault.{Fault}
use Rattle.serde_json.specs.View.{items_view, view}
use Rattle.serde_json.specs.declared.value.Value.{Value as Json}
use Rattle.document.specs.JsonRead.{added_to}
use Rattle.document.proofs.ReadingSteps.{added_refused, item_refused}
use Rattle.document.proofs.json_reader.read_items.Goals as goal

pub returns-in_err-read_one-clause-err : goal.returns-in_err-read_one-clause-err
returns-in_err-read_one-clause-err c =
    let p = err_from_is_err_and c.from_residual.result c.from_residual.ensures.1 in
    let field = c.args.field in
    let entry = c.args.entry.now in
    let items = c.args.items.now in
    let i = c.loop-item.item-index in
    let item = c.item-item.result in
    let fault = c.in_err-read_one.field-0.0 in
    let before = c.loop-item.doc in
    let rest : List Json → Result Document Fault = λ l. added_to before (read_items field entry (items_view l)) in
    rw (p.1, p.2) (λ other.
    let step = at_drop_more rest items i item c.loop-item-test.true ∙ ap (λ x. rest (x ∷ drop (i + 1) items)) (sym c.item-item.is) in
    let refused = item_refused field entry before (view item) (items_view (drop (i + 1) items)) fault (c.in_err-read_one.ensures.err other) in
    added_refused (c.args.doc.now) (read_items field entry (items_view items)) fault (sym c.loop-item.invariant ∙ step ∙ refused))
