use Rattle.std.proofs.Common.{length, sym, ap, ◌∙◌, ◌≡◌, ◌<◌, get_or, map, [], ◌∷◌, ◌++◌}
use Rattle.codes.proofs.RecordedLengths.{kept_in, nowhere, on_err, recorded_in}
use Rattle.definitions.proofs.Lists.{on_ok}
use Rattle.codes.specs.FieldNorms.{padded, with_length}
use Rattle.codes.proofs.fieldnorms_writer.FieldNormsWriter.record.Goals as goal

pub returns-in-Some-clause-ok : goal.returns-in-Some-clause-ok
returns-in-Some-clause-ok c =
    let fields = c.self.inside.fields.items in
    let found : (c.in-Some.index < length c.self.inside.fields.items) × (get_or c.self.inside.fields.items c.in-Some.index 0 ≡ c.args.field) = rw c.deref.ensures.value at c.in-Some.ensures.found in
    on_ok c.put_id.result (λ put.
    recorded_in (λ v. v.items) c.args.doc c.args.field c.args.fieldnorm fields c.self.inside.ids.items c.in-Some.index c.put_id.new.ids c.index_mut.result.now c.self.invariant.0 found.0 c.self.invariant.1 found.1 c.index_mut.ensures.value (put ∙ ap (λ id. padded c.args.doc c.index_mut.result.now.items ++ id ∷ []) c.fieldnorm_to_id.ensures)
    ∙ ap (with_length c.args.doc c.args.field c.args.fieldnorm) c.self.view_is) c.put_id.ensures.ok

pub returns-in-Some-clause-err : goal.returns-in-Some-clause-err
returns-in-Some-clause-err c =
    on_err c.put_id.result (λ same. kept_in (λ v. v.items) c.self.inside.fields.items c.self.inside.ids.items c.in-Some.index c.put_id.new.ids c.index_mut.result.now c.index_mut.ensures.value same ∙ c.self.view_is) c.put_id.ensures.err

pub returns-in-None-clause-ok : goal.returns-in-None-clause-ok
returns-in-None-clause-ok c =
    let absent = rw c.deref.ensures.value at c.in-None.ensures.none in
    sym (ap (with_length c.args.doc c.args.field c.args.fieldnorm) (sym c.self.view_is) ∙ nowhere c.args.doc c.args.field c.args.fieldnorm c.self.inside.fields.items (map (λ v. v.items) c.self.inside.ids.items) absent ∙ c.self.view_is)
