use Rattle.std.proofs.lemmas.Result.{err_from_is_err_and}
use Rattle.std.proofs.Common.{[], arith, get_or, length, refl, zip, ◌++◌, ◌∷◌, ◌<◌, ◌≡◌, ◌≢◌, ◌≤◌}
use Rattle.codes.proofs.FieldNormSections.{field_read, field_unread, is_empty, no_section, nothing_taken, section_left, section_read, take_all_ids, taken_is_section}
use Rattle.codes.proofs.VintLists.{is_not_empty}
use Rattle.codes.proofs.fieldnorm_readers.check_norms.Goals as goal

pub loop-field-init : goal.loop-field-init
loop-field-init c = ([], nothing_taken (take_all_ids c.args.num_docs c.args.fields.now c.args.bytes.now))

pub returns-in_err-after-clause-err : goal.returns-in_err-after-clause-err
returns-in_err-after-clause-err c =
    let p = err_from_is_err_and c.from_residual.result c.from_residual.ensures.1 in
    let refused = c.in_err-after.ensures.err in
    let inside : c.loop-field.field-index < length c.args.fields.now = omega arith in
    let so_far = c.loop-field.invariant in
    rw (p.1, p.2) (refused.0, no_section c.args.num_docs c.args.fields.now c.args.bytes.now (λ i. (let h = c.type_inv.fields i in omega arith)) (field_unread c.args.num_docs c.args.fields.now c.args.bytes.now c.loop-field.rest.now so_far.0 c.loop-field.field-index (get_or c.args.fields.now c.loop-field.field-index 0) so_far.1 inside refl refused.1))

pub loop-field-preserved : goal.loop-field-preserved
loop-field-preserved c =
    let inside : c.loop-field.field-index < length c.args.fields.now = omega arith in
    let so_far = c.loop-field.invariant in
    (so_far.0 ++ c.in_ok-after.field-0-0.now ∷ [], field_read c.args.num_docs c.args.fields.now c.args.bytes.now c.loop-field.rest.now c.in_ok-after.field-0-0.now c.in_ok-after.after.now so_far.0 c.loop-field.field-index (get_or c.args.fields.now c.loop-field.field-index 0) so_far.1 inside refl c.in_ok-after.ensures.ok)

pub returns-then-not-is_empty-clause-err : goal.returns-then-not-is_empty-clause-err
returns-then-not-is_empty-clause-err c =
    let all : length c.args.fields.now ≤ c.loop-field.field-index = omega arith in
    let more : length c.loop-field.rest.now ≢ 0 = is_not_empty (length c.loop-field.rest.now) c.if-not-is_empty.ensures in
    (refl, no_section c.args.num_docs c.args.fields.now c.args.bytes.now (λ i. (let h = c.type_inv.fields i in omega arith)) (section_left c.args.num_docs c.args.fields.now c.args.bytes.now c.loop-field.rest.now c.loop-field.invariant.0 c.loop-field.field-index c.loop-field.invariant.1 all more))

pub returns-clause-ok : goal.returns-clause-ok
returns-clause-ok c =
    let all : length c.args.fields.now ≤ c.loop-field.field-index = omega arith in
    let none : length c.loop-field.rest.now ≡ 0 = is_empty (length c.loop-field.rest.now) c.if-not-is_empty.ensures in
    let so_far = c.loop-field.invariant in
    let taken = taken_is_section c.args.num_docs c.args.fields.now c.args.bytes.now so_far.0 (λ i. (let h = c.type_inv.bytes i in omega arith)) (section_read c.args.num_docs c.args.fields.now c.args.bytes.now c.loop-field.rest.now so_far.0 c.loop-field.field-index so_far.1 all none) in
    (zip c.args.fields.now so_far.0, taken.norms)
