use Rattle.std.proofs.Common.{[], ◌<◌, ◌^◌, ◌∙◌, arith, slice_index, subst, sym}
use Rattle.std.proofs.lemmas.Result.{err_from_is_err_and}
use Rattle.definitions.specs.Postings.{Posting}
use Rattle.postings_writer.specs.Serializing.{CanWrite, postings_from}
use Rattle.postings_writer.proofs.WrittenTerms.{all_counted, all_opened, doc_refused, none_left, none_written, small_differences, sum_refused, written_more}
use Rattle.postings_writer.proofs.serialize_term.write_postings.Goals as goal

pub loop-at-init : goal.loop-at-init
loop-at-init c = none_written c.args.serializer.now (postings_from c.args.recorder.now 0) c.requires.can

pub write_doc-requires-clause-positions : goal.write_doc-requires-clause-positions
write_doc-requires-clause-positions c =
    let stands = c.in_ok-doc.ensures.ok in
    let can = subst (λ ps. CanWrite c.loop-at.serializer.writing.next c.loop-at.serializer.writing.norms ps) stands.rest c.loop-at.invariant.can in
    λ i. subst (λ ns. slice_index ns i < 2 ^ 31) (sym (c.deref.ensures.value ∙ stands.deltas_are)) (small_differences 0 stands.positions i can.placed.0)

pub loop-at-preserved : goal.loop-at-preserved
loop-at-preserved c =
    let stands = c.in_ok-doc.ensures.ok in
    let w = c.in_ok-write_doc.ensures in
    let p : Posting = record { doc = c.in_ok-doc.doc; count = c.in_ok-doc.count; positions = stands.positions } in
    written_more c.args.serializer.now c.loop-at.serializer c.write_doc.new.self (postings_from c.args.recorder.now 0) (postings_from c.args.recorder.now c.loop-at.at) (postings_from c.args.recorder.now c.in_ok-doc.next) p c.deref.result.now c.loop-at.invariant stands.rest (c.deref.ensures.value ∙ stands.deltas_are) w.written w.total w.same w.next

pub returns-clause-ok : goal.returns-clause-ok
returns-clause-ok c docs counts numbers is =
    all_opened c.args.serializer.now c.loop-at.serializer (postings_from c.args.recorder.now 0) (postings_from c.args.recorder.now c.loop-at.at) c.loop-at.invariant (none_left c.args.recorder.now c.loop-at.at (omega arith)) docs counts numbers is

pub returns-clause-total : goal.returns-clause-total
returns-clause-total c =
    all_counted c.args.serializer.now c.loop-at.serializer (postings_from c.args.recorder.now 0) (postings_from c.args.recorder.now c.loop-at.at) c.loop-at.invariant (none_left c.args.recorder.now c.loop-at.at (omega arith))

pub returns-in_err-doc-clause-err : goal.returns-in_err-doc-clause-err
returns-in_err-doc-clause-err c open_was =
    let p = err_from_is_err_and c.from_residual.result c.from_residual.ensures.1 in
    rw (p.1, p.2) (doc_refused c.in_err-doc.field-0.0 c.args.serializer.now c.loop-at.serializer (postings_from c.args.recorder.now 0) (postings_from c.args.recorder.now c.loop-at.at) c.loop-at.invariant c.in_err-doc.ensures.err)

pub returns-in_err-write_doc-clause-err : goal.returns-in_err-write_doc-clause-err
returns-in_err-write_doc-clause-err c open_was =
    let stands = c.in_ok-doc.ensures.ok in
    let inv = c.loop-at.invariant in
    let posting : Posting = record { doc = c.in_ok-doc.doc; count = c.in_ok-doc.count; positions = stands.positions } in
    let p = err_from_is_err_and c.from_residual-in_err-write_doc.result c.from_residual-in_err-write_doc.ensures.1 in
    rw (p.1, p.2) (sum_refused c.in_err-write_doc.field-0.0 c.args.serializer.now c.loop-at.serializer (postings_from c.args.recorder.now 0) (postings_from c.args.recorder.now c.loop-at.at) (postings_from c.args.recorder.now c.in_ok-doc.next) posting inv stands.rest (c.in_err-write_doc.ensures.err _ _ _ (inv.open_is [] [] [] open_was)))
