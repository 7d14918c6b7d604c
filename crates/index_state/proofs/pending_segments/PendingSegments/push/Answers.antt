use Rattle.std.proofs.Common.{subst, sym}
use Rattle.std.proofs.Math.Logic.{∥∥₁_map}
use Rattle.std.proofs.lemmas.Result.{err_from_is_err_and}
use Rattle.segment_definitions.specs.Segments.{IsSegmentOf}
use Rattle.index_state.proofs.PendingDocs.{close_err, close_passes, want_known}
use Rattle.index_state.proofs.pending_segments.PendingSegments.push.Goals as goal

pub returns-in_err-close-clause-err : goal.returns-in_err-close-clause-err
returns-in_err-close-clause-err c =
    let fault = c.in_err-close.field-0.0 in
    let p = err_from_is_err_and c.from_residual.result c.from_residual.ensures.1 in
    rw (p.1, p.2) (want_known fault (∥∥₁_map c.requires.written (λ w. close_err c.args.schema.now w.0 w.2 fault (c.in_err-close.ensures.err w.0 w.1 w.2 w.3))))

pub returns-in_err-close-clause-limit : goal.returns-in_err-close-clause-limit
returns-in_err-close-clause-limit c analyze block_size docs written =
    let fault = c.in_err-close.field-0.0 in
    let p = err_from_is_err_and c.from_residual.result c.from_residual.ensures.1 in
    rw (p.1, p.2) (close_passes c.args.schema.now analyze docs fault (c.in_err-close.ensures.err analyze block_size docs written))

pub returns-clause-ok : goal.returns-clause-ok
returns-clause-ok c analyze block_size docs written =
    let shared = c.in_ok-bytes.ensures.ok in
    let is = subst (IsSegmentOf c.args.schema.now analyze docs) (sym shared) (c.in_ok-close.ensures.ok analyze block_size docs written) in
    let count = c.num_docs-num_docs.ensures c.args.schema.now analyze block_size docs written in
    (record { bytes = c.in_ok-bytes.bytes; num_docs = c.num_docs-num_docs.result }, (is, count), c.in_ok-push.ensures.items)
