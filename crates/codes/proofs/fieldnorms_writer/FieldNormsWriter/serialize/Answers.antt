use Rattle.std.proofs.Common.{◌++◌, ◌≡◌, ◌<◌, ◌∙◌, ap, ap₂, arith, get_or, length, map}
use Rattle.codes.proofs.RecordedLengths.{put_all, put_more}
use Rattle.layouts.specs.FieldNorms.{field_norms_bytes, norms_bytes}
use Rattle.codes.proofs.fieldnorms_writer.FieldNormsWriter.serialize.Goals as goal

pub loop-index-preserved : goal.loop-index-preserved
loop-index-preserved c =
    let same = c.deref-field-items.ensures.value in
    let inside : c.loop-index.index < length c.self.inside.fields.items = omega (arith, ap length same, c.loop-index-test.true) in
    let put : c.serialize_field.new.self ≡ c.loop-index.serializer ++ field_norms_bytes (get_or c.deref-field-items.result.now c.loop-index.index 0, c.deref.result.now) = c.in_ok-serialize_field.ensures in
    put_more (λ v. v.items) c.args.serializer c.loop-index.serializer c.serialize_field.new.self c.loop-index.index c.self.inside.fields.items c.self.inside.ids.items c.index.result.now c.loop-index.invariant inside c.self.invariant.1 c.index.ensures
    (put ∙ ap₂ (λ fs ids. c.loop-index.serializer ++ field_norms_bytes (get_or fs c.loop-index.index 0, ids)) same c.deref.ensures.value)

pub returns : goal.returns
returns c =
    let all : c.loop-index.index ≡ length c.self.inside.fields.items = omega (arith, ap length c.deref-field-items.ensures.value) in
    c.close.ensures ∙ put_all c.args.serializer c.loop-index.serializer c.loop-index.index c.self.inside.fields.items (map (λ v. v.items) c.self.inside.ids.items) c.loop-index.invariant all ∙ ap (λ ps. c.args.serializer ++ norms_bytes ps) c.self.view_is
