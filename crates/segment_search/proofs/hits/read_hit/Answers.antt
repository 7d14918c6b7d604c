use Rattle.std.proofs.Common.{[], ap, ap₂, arith, get_or, sym, w64, ◌<◌, ◌≤◌, ◌^◌}
use Rattle.std.proofs.lemmas.Int.{to_z_pos}
use Rattle.std.proofs.lemmas.Result.{err_from_is_err_and}
use Rattle.definitions.specs.Stored.{Named, stored_values}
use Rattle.segment.specs.Opened.{StandsFor}
use Rattle.segment_search.proofs.AnswersGiven.{shows_read}
use Rattle.segment_search.proofs.HitsRead.{kept_set, not_past, slot_faults, stands_at, stored_at, told_there}
use Rattle.segment_search.proofs.hits.read_hit.Goals as goal

-- src/hits.rt:79:15
pub returns-in_err-doc-clause-fault : goal.returns-in_err-doc-clause-fault
returns-in_err-doc-clause-fault c analyze docs stands within =
    let p = err_from_is_err_and c.from_residual.result c.from_residual.ensures.1 in
    let there = stands_at (StandsFor c.args.schema.now analyze) [] c.index-segments-segment_ord.result docs c.args.segments.now c.args.found.1 stands c.requires.held.0 in
    rw (p.1, p.2) (not_past _ c.args.found.2 _ within (c.in_err-doc.ensures.refused analyze _ there))

pub returns-in_err-doc-clause-faults : goal.returns-in_err-doc-clause-faults
returns-in_err-doc-clause-faults c =
    let p = err_from_is_err_and c.from_residual.result c.from_residual.ensures.1 in
    let segments = c.args.segments.now in
    let i = c.args.found.1 in
    let other = c.index-segments-segment_ord.result in
    let there = stored_at segments i c.args.found.2 other c.requires.held.0 c.requires.held.2 in
    rw (p.1, p.2) (slot_faults c.args.schema.now (get_or segments i other) c.args.found.2 _ there c.in_err-doc.ensures.err)

pub returns-in_err-doc-clause-kept : goal.returns-in_err-doc-clause-kept
returns-in_err-doc-clause-kept c =
    let same = c.document.ensures.same in
    kept_set c.args.segments.now c.args.found.1 c.index-segments-segment_ord.result c.document.new.self c.requires.held.0 c.document.ensures.stands c.document.ensures.opened same.0 same.1 same.3

pub returns-clause-hit : goal.returns-clause-hit
returns-clause-hit c analyze docs stands =
    let there = stands_at (StandsFor c.args.schema.now analyze) [] c.index-segments-segment_ord.result docs c.args.segments.now c.args.found.1 stands c.requires.held.0 in
    let shown = told_there (stored_values c.args.schema.now) [] _ c.args.found.2 _ (c.in_ok-doc.ensures.shown analyze _ there) in
    let small : c.args.found.0 ≤ 1000000000000000 = c.requires.held.1 in
    let fits : c.args.found.0 < 2 ^ 63 = omega (arith, small) in
    ap₂ (λ z (named : Named). (z, named)) (to_z_pos w64 c.args.found.0 fits) (sym shown)

pub returns-clause-kept : goal.returns-clause-kept
returns-clause-kept c =
    let same = c.document.ensures.same in
    kept_set c.args.segments.now c.args.found.1 c.index-segments-segment_ord.result c.document.new.self c.requires.held.0 c.document.ensures.stands c.document.ensures.opened same.0 same.1 same.3

pub returns-clause-shown : goal.returns-clause-shown
returns-clause-shown c =
    let segments = c.args.segments.now in
    let other = c.index-segments-segment_ord.result in
    let small : c.args.found.0 ≤ 1000000000000000 = c.requires.held.1 in
    let fits : c.args.found.0 < 2 ^ 63 = omega (arith, small) in
    shows_read c.args.schema.now segments c.args.found _ other _ c.requires.held.0 c.in_ok-doc.ensures.ok (ap (λ z. (z, stored_values c.args.schema.now c.in_ok-doc.doc)) (to_z_pos w64 c.args.found.0 fits))
