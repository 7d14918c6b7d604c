use Rattle.std.proofs.Common.{false, rules, ◌∷◌, ◌≡◌}
use Rattle.definitions.specs.Schema.{field_has}
use Rattle.document_values.specs.Shown.{value_of}
use Rattle.document.proofs.StoredPairs.{one_less}
use Rattle.document.proofs.compact_doc.CompactDoc.stored_count.Goals as goal

pub overflow_sub-stored : goal.overflow_sub-stored
overflow_sub-stored c =
    let is : c.loop-field.field-iterator ≡ (c.in-Some.field, value_of c.in-Some.field-0-1) ∷ c.next.new.self = search rules in
    let out : field_has (λ e. e.stored) c.args.schema.now c.in-Some.field ≡ false = search rules in
    (one_less c.args.schema.now (c.in-Some.field, value_of c.in-Some.field-0-1) c.next.new.self c.loop-field.field-iterator c.loop-field.stored _ is out c.loop-field.invariant.2).0

pub loop-field-preserved-then-not-is_stored : goal.loop-field-preserved-then-not-is_stored
loop-field-preserved-then-not-is_stored c =
    let is : c.loop-field.field-iterator ≡ (c.in-Some.field, value_of c.in-Some.field-0-1) ∷ c.next.new.self = search rules in
    let out : field_has (λ e. e.stored) c.args.schema.now c.in-Some.field ≡ false = search rules in
    (tt, tt, (one_less c.args.schema.now (c.in-Some.field, value_of c.in-Some.field-0-1) c.next.new.self c.loop-field.field-iterator c.loop-field.stored _ is out c.loop-field.invariant.2).1)
