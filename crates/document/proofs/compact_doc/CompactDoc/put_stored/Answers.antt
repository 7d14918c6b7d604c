use Rattle.std.proofs.Common.{rules, true, ◌++◌, ◌∷◌, ◌≡◌}
use Rattle.definitions.specs.NumberCodes.{u32_bytes}
use Rattle.definitions.specs.Schema.{field_has}
use Rattle.document_values.specs.Shown.{value_of}
use Rattle.document.proofs.StoredPairs.{pair_put}
use Rattle.document.proofs.compact_doc.CompactDoc.put_stored.Goals as goal

pub loop-field-preserved-in-Continue-branch-2 : goal.loop-field-preserved-in-Continue-branch-2
loop-field-preserved-in-Continue-branch-2 c =
    let is : c.loop-field.field-iterator ≡ (c.in-Some.field, value_of c.in-Some.value) ∷ c.next.new.self = search rules in
    let taken : field_has (λ e. e.stored) c.args.schema.now c.in-Some.field ≡ true = search rules in
    let number : c.put_u32.new.out.items ≡ c.loop-field.out.items ++ u32_bytes c.in-Some.field = search rules in
    (tt, tt, pair_put c.args.schema.now c.in-Some.field (value_of c.in-Some.value) c.next.new.self c.loop-field.field-iterator c.loop-field.out.items c.put_u32.new.out.items c.put_value.new.out.items _ is taken number c.in_ok-put_value.ensures c.loop-field.invariant.2)
