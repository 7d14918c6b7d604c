use Rattle.std.proofs.Common.{◌≡◌, ◌<◌, ◌∙◌, ap, arith, length, length-set, map, set, sym, zip}
use Rattle.std.proofs.lemmas.List.{with_items_is}
use Rattle.codes.proofs.RecordedLengths.{anyway, padded_in, padded_rest, padded_whole}
use Rattle.codes.specs.FieldNorms.{all_padded}
use Rattle.codes.proofs.fieldnorms_writer.FieldNormsWriter.fill_up_to_max_doc.Goals as goal

pub loop-ids-preserved : goal.loop-ids-preserved
loop-ids-preserved c =
    let inside : c.loop-ids.ids-index < length c.loop-ids.ids-items = omega arith in
    padded_in (λ v. v.items) c.args.max_doc c.loop-ids.ids-index c.deref_mut-ids-items.result.now c.loop-ids.ids-items c.pad.new.ids c.ids-item.result c.loop-ids.invariant inside c.in_ok-pad.ensures.ok

pub returns-in_err-pad-clause-err : goal.returns-in_err-pad-clause-err
returns-in_err-pad-clause-err c =
    let kept : length c.loop-ids.ids-items ≡ length c.deref_mut-ids-items.result.now = omega arith in
    let begun = c.deref_mut-ids-items.ensures.value in
    let many : length (set c.loop-ids.ids-items c.loop-ids.ids-index c.pad.new.ids) ≡ c.self.inside.ids.len = length-set c.loop-ids.ids-items c.loop-ids.ids-index c.pad.new.ids ∙ kept ∙ ap length begun ∙ sym c.self.inside.ids.ok.0 in
    anyway c.from_residual.result
    (ap (λ vs. all_padded c.args.max_doc (zip c.self.inside.fields.items (map (λ v. v.items) vs))) (with_items_is c.self.inside.ids (set c.loop-ids.ids-items c.loop-ids.ids-index c.pad.new.ids) many)
    ∙ padded_rest (λ v. v.items) c.args.max_doc c.loop-ids.ids-index c.deref_mut-ids-items.result.now c.loop-ids.ids-items c.pad.new.ids c.ids-item.result c.self.inside.fields.items c.loop-ids.invariant c.in_err-pad.ensures.err
    ∙ ap (λ vs. all_padded c.args.max_doc (zip c.self.inside.fields.items (map (λ v. v.items) vs))) begun
    ∙ ap (all_padded c.args.max_doc) c.self.view_is)

pub returns-clause-ok : goal.returns-clause-ok
returns-clause-ok c =
    let all : c.loop-ids.ids-index ≡ length c.deref_mut-ids-items.result.now = omega arith in
    let kept : length c.loop-ids.ids-items ≡ length c.deref_mut-ids-items.result.now = omega arith in
    let begun = c.deref_mut-ids-items.ensures.value in
    let many : length c.loop-ids.ids-items ≡ c.self.inside.ids.len = kept ∙ ap length begun ∙ sym c.self.inside.ids.ok.0 in
    ap (λ vs. zip c.self.inside.fields.items (map (λ v. v.items) vs)) (with_items_is c.self.inside.ids c.loop-ids.ids-items many)
    ∙ padded_whole (λ v. v.items) c.args.max_doc c.loop-ids.ids-index c.deref_mut-ids-items.result.now c.loop-ids.ids-items c.self.inside.fields.items c.loop-ids.invariant all
    ∙ ap (λ vs. all_padded c.args.max_doc (zip c.self.inside.fields.items (map (λ v. v.items) vs))) begun
    ∙ ap (all_padded c.args.max_doc) c.self.view_is
