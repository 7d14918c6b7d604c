use Rattle.std.proofs.Common.{List, ap, arith, length, subst, sym, ◌∙◌, ◌≡◌, ◌≤◌, ℕ}
use Rattle.std.proofs.Math.Logic.{∥∥₁_elim, ∥∥₁_map}
use Rattle.std.proofs.Props.{props}
use Rattle.std.proofs.lemmas.Result.{err_from_is_err_and}
use Rattle.std.specs.List.{AllByRecursion}
use Rattle.definitions.proofs.Lists.{all_at_least as long}
use Rattle.definitions.specs.KeptLengths.{norms_of}
use Rattle.definitions.specs.Postings.{postings}
use Rattle.layouts.specs.Deltas.{IsAscendingFrom}
use Rattle.layouts.specs.FieldNorms.{norms_bytes}
use Rattle.layouts.specs.InvertedIndexes.{AreIndexed, AreSections, IndexedField}
use Rattle.postings_writer.specs.Limits.{IsFieldWithin, IsSerializeRefusal}
use Rattle.postings_writer.specs.Writers.{Writer}
use Rattle.document_indexer.proofs.KeptLengths.{fields_ascend, lengths_known}
use Rattle.document_indexer.proofs.PassedLimits.{refusal_given, sections_given}
use Rattle.document_indexer.specs.Indexed.{HasWritten}
use Rattle.document_indexer.proofs.document_indexer.DocumentIndexer.serialize_terms.Goals as goal

pub new-readers-requires-clause-ascend : goal.new-readers-requires-clause-ascend
new-readers-requires-clause-ascend c = subst (IsAscendingFrom 0) (sym (c.deref.ensures.value ∙ c.in_ok-fields.ensures)) (fields_ascend c.args.schema.now)

pub new-readers-requires-clause-known : goal.new-readers-requires-clause-known
new-readers-requires-clause-known c = ∥∥₁_map c.requires.indexed (λ given.
    let schema = c.args.schema.now in
    (norms_of schema given.0 given.1, lengths_known schema given.0 given.1 c.deref.result.now c.args.norms.now c.num_docs.result (c.deref.ensures.value ∙ c.in_ok-fields.ensures) (c.num_docs.ensures schema given.0 given.1 given.2) (c.requires.lengths ∙ ap norms_bytes given.2.norms_are)))

pub serialize-requires-clause-stands : goal.serialize-requires-clause-stands
serialize-requires-clause-stands c = ∥∥₁_map c.requires.indexed (λ given.
    let schema = c.args.schema.now in
    let W : Writer → Type 0 = λ w. HasWritten schema given.0 w given.1 in
    let written = subst W (sym c.postings_writer-writer.ensures) given.2.recorded.written in
    (written.os, written.stands))

pub serialize-requires-clause-lengths : goal.serialize-requires-clause-lengths
serialize-requires-clause-lengths c = ∥∥₁_elim c.requires.indexed (hlevel props) (λ given.
    let schema = c.args.schema.now in
    let few = given.2.recorded.written.num_docs_within in
    let docs = c.num_docs.ensures schema given.0 given.1 given.2 in
    let same = ap (λ (w : Writer). w.num_docs) c.postings_writer-writer.ensures in
    let known = lengths_known schema given.0 given.1 c.deref.result.now c.args.norms.now c.num_docs.result (c.deref.ensures.value ∙ c.in_ok-fields.ensures) docs (c.requires.lengths ∙ ap norms_bytes given.2.norms_are) in
    let n = c.postings_writer-writer.result.now.num_docs in
    let P : List (ℕ × List ℕ) → Type 0 = AllByRecursion (λ (p : ℕ × List ℕ). n ≤ length p.1) in
    subst P (sym (c.new-readers.ensures (norms_of schema given.0 given.1) known)) (long n c.num_docs.result (norms_of schema given.0 given.1) (omega (arith, few, docs, same)) known.counts))

pub returns-in_err-serializer-2-clause-err : goal.returns-in_err-serializer-2-clause-err
returns-in_err-serializer-2-clause-err c analyze docs h =
    let schema = c.args.schema.now in
    let fault = c.in_err-serializer-2.field-0.0 in
    let readers = c.new-readers.result in
    let are : readers ≡ norms_of schema analyze docs = c.new-readers.ensures (norms_of schema analyze docs) (lengths_known schema analyze docs c.deref.result.now c.args.norms.now c.num_docs.result (c.deref.ensures.value ∙ c.in_ok-fields.ensures) (c.num_docs.ensures schema analyze docs h) (c.requires.lengths ∙ ap norms_bytes h.norms_are)) in
    let W : Writer → Type 0 = λ w. HasWritten schema analyze w docs in
    let written = subst W (sym c.postings_writer-writer.ensures) h.recorded.written in
    let Q : List (ℕ × List ℕ) → Type 0 = λ ns. IsSerializeRefusal fault schema ns (λ t. postings schema analyze t docs) in
    let p = err_from_is_err_and c.from_residual-in_err-serializer-2.result c.from_residual-in_err-serializer-2.ensures.1 in
    rw (p.1, p.2) (subst Q are (refusal_given fault schema analyze docs readers c.postings_writer-writer.result.now written c.in_err-serializer-2.ensures.err))

pub returns-clause-ok : goal.returns-clause-ok
returns-clause-ok c analyze docs h =
    let schema = c.args.schema.now in
    let readers = c.new-readers.result in
    let are : readers ≡ norms_of schema analyze docs = c.new-readers.ensures (norms_of schema analyze docs) (lengths_known schema analyze docs c.deref.result.now c.args.norms.now c.num_docs.result (c.deref.ensures.value ∙ c.in_ok-fields.ensures) (c.num_docs.ensures schema analyze docs h) (c.requires.lengths ∙ ap norms_bytes h.norms_are)) in
    let W : Writer → Type 0 = λ w. HasWritten schema analyze w docs in
    let written = subst W (sym c.postings_writer-writer.ensures) h.recorded.written in
    let terms = c.close.result.0.items in
    let ps = c.close.result.1.items in
    let qs = c.close.result.2.items in
    let Q : List (ℕ × List ℕ) → Type 0 = λ ns. (fields : List IndexedField) × AreSections schema (length docs) ns fields terms ps qs × AreIndexed schema analyze docs fields × AllByRecursion (IsFieldWithin schema) fields in
    subst Q are (sections_given schema analyze docs readers c.postings_writer-writer.result.now terms ps qs written (λ n os less stands.
    let found = c.in_ok-serializer-2.ensures.ok n os less stands in
    (found.0, subst (λ (xs : List ℕ). AreSections schema n readers found.0 xs ps qs) (sym c.close.ensures.terms) (subst (λ (xs : List ℕ). AreSections schema n readers found.0 c.in_ok-serializer-2.serializer.terms xs qs) (sym c.close.ensures.postings) (subst (λ (xs : List ℕ). AreSections schema n readers found.0 c.in_ok-serializer-2.serializer.terms c.in_ok-serializer-2.serializer.postings xs) (sym c.close.ensures.positions) found.1)), found.2, found.3)))
