use Rattle.std.proofs.Common.{[], List, ap, arith, length, ◌++◌, ◌∙◌, ◌∷◌, ◌≡◌, subst, sym, ℕ}
use Rattle.std.proofs.Math.Logic.{∥∥₁_elim}
use Rattle.std.proofs.Props.{props}
use Rattle.std.proofs.lemmas.Result.{err_from_is_err_and}
use Rattle.definitions.specs.KeptLengths.{norms_of}
use Rattle.document_indexer.specs.Contexts.{Context}
use Rattle.document_indexer.specs.FieldLengths.{AreLengths, with_ids}
use Rattle.document_indexer.specs.Indexed.{HasRecorded}
use Rattle.document_indexer.proofs.Adding.{document_counted, document_more, document_refused, document_within}
use Rattle.document_indexer.proofs.KeptLengths.{AreKept, document_kept, norms_kept}
use Rattle.document_indexer.proofs.document_indexer.DocumentIndexer.add.Goals as goal

pub index_document-requires : goal.index_document-requires
index_document-requires g c = ∥∥₁_elim c.requires (hlevel props) (λ given.
    let h = given.1.recorded in
    record {
      made = h.written.stands.fields_are;
      next = (let few = h.written.num_docs_within in let count = h.count in omega arith);
      fits = (let at = c.doc.ensures in let below = c.if-doc-ge-TERMINATED.false in omega arith);
    })

pub returns-in_err-index_document-clause-err : goal.returns-in_err-index_document-clause-err
returns-in_err-index_document-clause-err g c docs h =
    let p = err_from_is_err_and c.from_residual.result c.from_residual.ensures.1 in
    rw (p.1, p.2) (document_refused c.args.schema.now (g.A.Analyzer.analyze c.args.analyzer.now) c.args.self.now.context c.args.self.now.context docs c.args.doc.now h.recorded c.in_err-index_document.field-0.0 c.in_err-index_document.ensures.err)

pub record_lengths-requires-clause-few : goal.record_lengths-requires-clause-few
record_lengths-requires-clause-few g c = ∥∥₁_elim c.requires (hlevel props) (λ given.
    let count = c.in_ok-index_document.ensures.lengths.count in
    let few = given.1.recorded.written.stands.schema_fits in
    let same = ap length c.deref.ensures.value in
    omega (arith, count, few, same))

pub record_lengths-requires-clause-kept : goal.record_lengths-requires-clause-kept
record_lengths-requires-clause-kept g c = ∥∥₁_elim c.requires (hlevel props) (λ given.
    let schema = c.args.schema.now in
    let analyze = g.A.Analyzer.analyze c.args.analyzer.now in
    let docs = given.0 in
    let h = given.1 in
    let lengths : List ℕ = c.deref.result.now in
    let L : List ℕ → Type 0 = AreLengths schema analyze c.args.doc.now in
    let are = subst L (sym c.deref.ensures.value) c.in_ok-index_document.ensures.lengths in
    let doc : ℕ = c.doc-2.result in
    let doc_is : doc ≡ length docs = (let at = c.doc-2.ensures in let same = c.in_ok-index_document.ensures.ok.doc in let count = h.recorded.count in omega arith) in
    let kept = norms_kept schema analyze docs in
    let by_count = subst (λ n. AreKept n (length docs) (norms_of schema analyze docs)) (sym are.count) kept in
    let by_doc = subst (λ d. AreKept (length lengths) d (norms_of schema analyze docs)) (sym doc_is) by_count in
    subst (AreKept (length lengths) doc) (sym h.norms_are) by_doc)

pub returns-clause-ok : goal.returns-clause-ok
returns-clause-ok g c docs h =
    let schema = c.args.schema.now in
    let analyze = g.A.Analyzer.analyze c.args.analyzer.now in
    let lengths : List ℕ = c.deref.result.now in
    let L : List ℕ → Type 0 = AreLengths schema analyze c.args.doc.now in
    let are = subst L (sym c.deref.ensures.value) c.in_ok-index_document.ensures.lengths in
    let P : Context → Type 0 = λ x. HasRecorded schema analyze x (docs ++ c.args.doc.now ∷ []) in
    record {
      recorded = subst P (sym c.end_document.ensures) (document_more schema analyze c.args.self.now.context c.index_document.new.indexer docs c.args.doc.now h.recorded c.in_ok-index_document.ensures.ok);
      norms_are = c.in_ok-record_lengths.ensures ∙ ap (with_ids lengths) h.norms_are ∙ document_kept schema analyze docs c.args.doc.now lengths are;
    }

pub returns-clause-within : goal.returns-clause-within
returns-clause-within g c docs h =
    let schema = c.args.schema.now in
    let analyze = g.A.Analyzer.analyze c.args.analyzer.now in
    let count = h.recorded.count in
    let recorded = c.in_ok-index_document.ensures.ok in (
      omega (arith, count),
      document_within schema analyze c.args.self.now.context c.index_document.new.indexer docs c.args.doc.now h.recorded recorded,
      document_counted schema analyze c.args.self.now.context c.index_document.new.indexer docs c.args.doc.now h.recorded recorded,
    )
