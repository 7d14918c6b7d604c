use Rattle.std.proofs.Common.{arith, refl}
use Rattle.std.proofs.lemmas.Result.{err_from_is_err_and}
use Rattle.layouts.specs.Deltas.{next_of}
use Rattle.segment_postings.proofs.RestWalks.{walks_all, walks_more, walks_past, walks_unread}
use Rattle.segment_postings.proofs.rest_check.checked_docs.Goals as goal

pub returns-in_err-delta-clause-err : goal.returns-in_err-delta-clause-err
returns-in_err-delta-clause-err c =
    let p = err_from_is_err_and c.from_residual.result c.from_residual.ensures.1 in
    let refused = c.in_err-delta.ensures.err in
    rw (p.1, p.2) (refused.0, λ left r. walks_unread c.args.num_docs (next_of c.args.before) c.args.doc_count c.args.bytes.now c.loop.counter c.loop.next c.loop.rest.now left c.loop.invariant.walks (omega arith) refused.1 r)

pub returns-then-doc-num_docs-clause-err : goal.returns-then-doc-num_docs-clause-err
returns-then-doc-num_docs-clause-err c =
    let past = c.if-doc-num_docs.true in
    (refl, λ left r. walks_past c.args.num_docs (next_of c.args.before) c.args.doc_count c.args.bytes.now c.loop.counter c.loop.next c.loop.rest.now c.in_ok-delta.delta c.in_ok-delta.after.now left c.loop.invariant.walks (omega arith) c.in_ok-delta.ensures.ok (omega (arith, past)) r)

pub loop-preserved : goal.loop-preserved
loop-preserved c =
    let less = c.if-doc-num_docs.false in
    record {
      walks = walks_more c.args.num_docs (next_of c.args.before) c.args.doc_count c.args.bytes.now c.loop.counter c.loop.next c.loop.rest.now c.in_ok-delta.delta c.in_ok-delta.after.now c.loop.invariant.walks (omega arith) c.in_ok-delta.ensures.ok (omega (arith, less));
      few = omega (arith, less);
    }

pub returns-clause-ok : goal.returns-clause-ok
returns-clause-ok c = walks_all c.args.num_docs (next_of c.args.before) c.args.doc_count c.args.bytes.now c.loop.counter c.loop.next c.loop.rest.now c.loop.invariant.walks (omega arith)
