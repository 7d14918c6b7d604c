-- Each turn names one list more.
use Rattle.std.proofs.Common.{ap, arith, length, rules, slice_get, suc, ◌++◌, ◌∷◌, ◌≡◌}
use Rattle.document.specs.NamedDocs.{named_list, named_of}
use Rattle.document.specs.FieldLists.{lent_values}
use Rattle.document.proofs.NamedParts.{named-more}
use Rattle.document.proofs.named_doc.named.Goals as goal

pub loop-values-preserved : goal.loop-values-preserved
loop-values-preserved c =
    let schema = c.args.schema.now in
    let l = c.loop-values in
    let left = c.next.new.self.rest.items in
    let values = c.in-Some.values in
    let whole : l.values-iterator.rest.items ≡ values ∷ left = search rules in
    let pushed : named_of c.push_named.new.fields.items ≡ named_of l.fields.items ++ named_list (slice_get schema l.field) (lent_values values.items) = search rules in
    let count = l.invariant.0 in
    let long : length l.values-iterator.rest.items ≡ suc (length left) = ap length whole in
    (omega (arith, count, long), named-more schema l.field values left l.values-iterator.rest.items (named_of l.fields.items) (named_of c.push_named.new.fields.items) _ (omega (arith, count, long)) whole pushed l.invariant.1)
