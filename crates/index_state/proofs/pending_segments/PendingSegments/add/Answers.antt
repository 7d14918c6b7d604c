use Rattle.std.proofs.Common.{[], arith, inl, inr, length, subst, sym, ◌++◌, ◌∙◌, ◌∷◌, ◌≤◌}
use Rattle.std.specs.List.{AllZip}
use Rattle.std.proofs.Math.Logic.{∥∥₁_map}
use Rattle.std.proofs.lemmas.Result.{err_from_is_err_and, on_ok_weaker}
use Rattle.index_state.proofs.PendingDocs.{add_err, add_passes, full_passes, one_full, one_more, want_known}
use Rattle.index_state.specs.Pending.{IsFull}
use Rattle.index_state.proofs.pending_segments.PendingSegments.add.Goals as goal

pub add-requires-clause-written : goal.add-requires-clause-written
add-requires-clause-written g c = ∥∥₁_map c.requires.held (λ h. (c.args.settings.now.block_size, h.1, c.in_ok-writer.ensures.ok (g.A.Analyzer.analyze c.args.analyzer.now) h.0 h.1 h.2))

pub returns-in_err-add-clause-err : goal.returns-in_err-add-clause-err
returns-in_err-add-clause-err g c =
    let analyze = g.A.Analyzer.analyze c.args.analyzer.now in
    let block_size = c.args.settings.now.block_size in
    let fault = c.in_err-add.field-0.0 in
    let p = err_from_is_err_and c.from_residual-in_err-add.result c.from_residual-in_err-add.ensures.1 in
    rw (p.1, p.2) (want_known fault (∥∥₁_map c.requires.held (λ h. add_err c.args.schema.now analyze block_size h.1 c.args.doc.now fault (c.in_err-add.ensures.err block_size h.1 (c.in_ok-writer.ensures.ok analyze h.0 h.1 h.2)))))

pub returns-in_err-add-clause-limit : goal.returns-in_err-add-clause-limit
returns-in_err-add-clause-limit g c full last h =
    let analyze = g.A.Analyzer.analyze c.args.analyzer.now in
    let block_size = c.args.settings.now.block_size in
    let fault = c.in_err-add.field-0.0 in
    let p = err_from_is_err_and c.from_residual-in_err-add.result c.from_residual-in_err-add.ensures.1 in
    rw (p.1, p.2) (add_passes c.args.schema.now analyze block_size c.args.settings.now.docs_per_segment last c.args.doc.now fault (c.in_err-add.ensures.err block_size last (c.in_ok-writer.ensures.ok analyze full last h)))

pub returns-then-num_docs-docs_per_segment-clause-ok : goal.returns-then-num_docs-docs_per_segment-clause-ok
returns-then-num_docs-docs_per_segment-clause-ok g c full last h =
    let schema = c.args.schema.now in
    let analyze = g.A.Analyzer.analyze c.args.analyzer.now in
    let block_size = c.args.settings.now.block_size in
    let more = last ++ c.args.doc.now ∷ [] in
    let written = c.in_ok-add.ensures.ok block_size last (c.in_ok-writer.ensures.ok analyze full last h) in
    let count = c.num_docs.ensures schema analyze block_size more written in
    let short = c.if-num_docs-docs_per_segment.true in
    let size = c.docs_per_segment.ensures.value in
    inl (
      omega (arith, count, short, size),
      record {
        closed = subst (AllZip (IsFull schema analyze) full) (sym c.in_ok-writer.ensures.full) h.closed;
        writer = (one_more last c.args.doc.now, written);
      },
    )

pub returns-then-num_docs-docs_per_segment-clause-within : goal.returns-then-num_docs-docs_per_segment-clause-within
returns-then-num_docs-docs_per_segment-clause-within g c full last h = c.in_ok-add.ensures.within c.args.settings.now.block_size last (c.in_ok-writer.ensures.ok (g.A.Analyzer.analyze c.args.analyzer.now) full last h)

pub push-requires : goal.push-requires
push-requires g c =
    let analyze = g.A.Analyzer.analyze c.args.analyzer.now in
    let block_size = c.args.settings.now.block_size in
    let doc = c.args.doc.now in
    record {
      written = ∥∥₁_map c.requires.held (λ h. (analyze, block_size, h.1 ++ doc ∷ [], c.in_ok-add.ensures.ok block_size h.1 (c.in_ok-writer.ensures.ok analyze h.0 h.1 h.2), one_more h.1 doc));
    }

pub returns-clause-ok : goal.returns-clause-ok
returns-clause-ok g c full last h =
    let schema = c.args.schema.now in
    let analyze = g.A.Analyzer.analyze c.args.analyzer.now in
    let block_size = c.args.settings.now.block_size in
    let more = last ++ c.args.doc.now ∷ [] in
    let was = c.open_writer.new.self in
    let written = c.in_ok-add.ensures.ok block_size last (c.in_ok-writer.ensures.ok analyze full last h) in
    let count = c.num_docs.ensures schema analyze block_size more written in
    let long = c.if-num_docs-docs_per_segment.false in
    let size = c.docs_per_segment.ensures.value in
    let many : c.args.settings.now.docs_per_segment ≤ length more = omega (arith, count, long, size) in
    let closed = subst (AllZip (IsFull schema analyze) full) (sym c.in_ok-writer.ensures.full) h.closed in
    on_ok_weaker c.push.result
    (λ closing. inr (many, one_full schema analyze block_size c.push.new.self full was.full.items more closing.0 closed closing.1 closing.2 (c.push.ensures.writer ∙ c.in_ok-writer.ensures.none)))
    (c.push.ensures.ok analyze block_size more written)

pub returns-clause-within : goal.returns-clause-within
returns-clause-within g c full last h =
    let analyze = g.A.Analyzer.analyze c.args.analyzer.now in
    let block_size = c.args.settings.now.block_size in
    let before = c.in_ok-writer.ensures.ok analyze full last h in
    on_ok_weaker c.push.result (λ closing. c.in_ok-add.ensures.within block_size last before) (c.push.ensures.ok analyze block_size (last ++ c.args.doc.now ∷ []) (c.in_ok-add.ensures.ok block_size last before))

pub returns-clause-limit : goal.returns-clause-limit
returns-clause-limit g c full last h =
    let schema = c.args.schema.now in
    let analyze = g.A.Analyzer.analyze c.args.analyzer.now in
    let block_size = c.args.settings.now.block_size in
    let n = c.args.settings.now.docs_per_segment in
    let more = last ++ c.args.doc.now ∷ [] in
    let written = c.in_ok-add.ensures.ok block_size last (c.in_ok-writer.ensures.ok analyze full last h) in
    let count = c.num_docs.ensures schema analyze block_size more written in
    let long = c.if-num_docs-docs_per_segment.false in
    let size = c.docs_per_segment.ensures.value in
    full_passes c.push.result schema analyze block_size n last c.args.doc.now (omega (arith, count, long, size)) (c.push.ensures.limit analyze block_size more written)
