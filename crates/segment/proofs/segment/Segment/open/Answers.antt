use Rattle.std.proofs.Common.{List, length, subst, sym, ◌∙◌, ◌≡◌, ℕ}
use Rattle.std.proofs.lemmas.Grind.{merely}
use Rattle.std.proofs.lemmas.Result.{err_from_is_err_and}
use Rattle.std.specs.List.{AllByRecursion}
use Rattle.definitions.specs.KeptLengths.{length_fields}
use Rattle.document_indexer.proofs.KeptLengths.{fields_ascend}
use Rattle.layouts.specs.Deltas.{IsAscendingFrom}
use Rattle.layouts.specs.FieldNorms.{IsNorms}
use Rattle.layouts.specs.InvertedIndexes.{AreSections}
use Rattle.segment.specs.Sections.{sections_in}
use Rattle.segment_definitions.specs.Segments.{AreWritten}
use Rattle.segment.proofs.Opening.{norms_over, opened_read, parts_told, store_short}
use Rattle.segment.proofs.segment.Segment.open.Goals as goal

pub returns-in_err-length_fields-clause-err : goal.returns-in_err-length_fields-clause-err
returns-in_err-length_fields-clause-err c =
    let p = err_from_is_err_and c.from_residual-in_err-length_fields.result c.from_residual-in_err-length_fields.ensures.1 in
    let schema = c.args.schema.now in
    let N = c.in_ok-sections.sections in
    let written = subst (λ (bs : List ℕ). AreWritten N.num_docs (sections_in N) bs) c.in_ok-clone.ensures.cases c.in_ok-sections.ensures.ok in
    rw (p.1, p.2) (λ other.
    let e = c.in_err-length_fields.ensures.err other in (
      e.0,
      λ n is.
          let told = parts_told schema N.num_docs n (sections_in N) c.args.bytes written is in
          e.1 told.norms (subst (λ (bs : List ℕ). IsNorms (length_fields schema) N.num_docs bs told.norms) (sym c.as_slice.ensures) told.norms_are),
    ))

pub new-readers-requires-clause-ascend : goal.new-readers-requires-clause-ascend
new-readers-requires-clause-ascend c = subst (IsAscendingFrom 0) (sym (c.deref.ensures.value ∙ c.in_ok-length_fields.ensures.fields)) (fields_ascend c.args.schema.now)

pub open-requires-clause-kept : goal.open-requires-clause-kept
open-requires-clause-kept c =
    let N = c.in_ok-sections.sections in
    let read = c.in_ok-length_fields.ensures.ok in
    let over = norms_over c.args.schema.now N.num_docs c.deref.result.now c.as_slice.result.now c.as_slice-2.result.now read.0 (c.deref.ensures.value ∙ c.in_ok-length_fields.ensures.fields) (c.as_slice-2.ensures ∙ sym c.as_slice.ensures) read.1 in
    subst (λ (norms : List (ℕ × List ℕ)). AllByRecursion (λ p. length p.1 ≡ N.num_docs) norms) (sym (c.new-readers.ensures read.0 over)) read.1.counts

pub returns-in_err-inverted_index-clause-err : goal.returns-in_err-inverted_index-clause-err
returns-in_err-inverted_index-clause-err c =
    let p = err_from_is_err_and c.from_residual-in_err-inverted_index.result c.from_residual-in_err-inverted_index.ensures.1 in
    let schema = c.args.schema.now in
    let N = c.in_ok-sections.sections in
    let written = subst (λ (bs : List ℕ). AreWritten N.num_docs (sections_in N) bs) c.in_ok-clone.ensures.cases c.in_ok-sections.ensures.ok in
    rw (p.1, p.2) (λ other.
    let e = c.in_err-inverted_index.ensures.err other in (
      e.0,
      λ n is.
          let told = parts_told schema N.num_docs n (sections_in N) c.args.bytes written is in
          let over = norms_over schema N.num_docs c.deref.result.now N.norms c.as_slice-2.result.now told.norms (c.deref.ensures.value ∙ c.in_ok-length_fields.ensures.fields) c.as_slice-2.ensures told.norms_are in
          e.1 told.fields (subst (λ (norms : List (ℕ × List ℕ)). AreSections schema N.num_docs norms told.fields N.terms N.postings N.positions) (sym (c.new-readers.ensures told.norms over)) told.terms_are) told.keyed,
    ))

pub open_store-requires : goal.open_store-requires
open_store-requires c =
    let N = c.in_ok-sections.sections in
    store_short N.num_docs (sections_in N) c.in_ok-clone.field-0 c.in_ok-sections.ensures.ok

pub returns-in_err-store-clause-err : goal.returns-in_err-store-clause-err
returns-in_err-store-clause-err c =
    let p = err_from_is_err_and c.from_residual-in_err-store.result c.from_residual-in_err-store.ensures.1 in
    let schema = c.args.schema.now in
    let N = c.in_ok-sections.sections in
    let written = subst (λ (bs : List ℕ). AreWritten N.num_docs (sections_in N) bs) c.in_ok-clone.ensures.cases c.in_ok-sections.ensures.ok in
    rw (p.1, p.2) (λ other.
    let e = c.in_err-store.ensures.err other in (
      e.0,
      λ n is.
          let told = parts_told schema N.num_docs n (sections_in N) c.args.bytes written is in
          e.1 told.blocks told.blocks_are told.store_is told.counted,
    ))

pub invariant_of-result : goal.invariant_of-result
invariant_of-result c =
    let schema = c.args.schema.now in
    let N = c.in_ok-sections.sections in
    let r = c.in_ok-inverted_index in
    let store = c.in_ok-store in
    let written = subst (λ (bs : List ℕ). AreWritten N.num_docs (sections_in N) bs) c.in_ok-clone.ensures.cases c.in_ok-sections.ensures.ok in
    let read = c.in_ok-length_fields.ensures.ok in
    let norms = subst (λ (bs : List ℕ). IsNorms (length_fields schema) N.num_docs bs read.0) c.as_slice.ensures read.1 in
    let over = norms_over schema N.num_docs c.deref.result.now c.as_slice.result.now c.as_slice-2.result.now read.0 (c.deref.ensures.value ∙ c.in_ok-length_fields.ensures.fields) (c.as_slice-2.ensures ∙ sym c.as_slice.ensures) read.1 in
    record { opened = merely (schema, opened_read schema N.num_docs (sections_in N) c.args.bytes r.inverted_index c.in_ok-length_fields.length_fields.items store.store.blocks read.0 c.new-readers.result written c.in_ok-length_fields.ensures.fields norms (c.new-readers.ensures read.0 over) r.ensures.sections r.ensures.exact r.ensures.ok store.ensures.blocks store.ensures.counted) }

pub returns-clause-ok : goal.returns-clause-ok
returns-clause-ok c =
    let schema = c.args.schema.now in
    let N = c.in_ok-sections.sections in
    let r = c.in_ok-inverted_index in
    let store = c.in_ok-store in
    let written = subst (λ (bs : List ℕ). AreWritten N.num_docs (sections_in N) bs) c.in_ok-clone.ensures.cases c.in_ok-sections.ensures.ok in
    let read = c.in_ok-length_fields.ensures.ok in
    let norms = subst (λ (bs : List ℕ). IsNorms (length_fields schema) N.num_docs bs read.0) c.as_slice.ensures read.1 in
    let over = norms_over schema N.num_docs c.deref.result.now c.as_slice.result.now c.as_slice-2.result.now read.0 (c.deref.ensures.value ∙ c.in_ok-length_fields.ensures.fields) (c.as_slice-2.ensures ∙ sym c.as_slice.ensures) read.1 in
    opened_read schema N.num_docs (sections_in N) c.args.bytes r.inverted_index c.in_ok-length_fields.length_fields.items store.store.blocks read.0 c.new-readers.result written c.in_ok-length_fields.ensures.fields norms (c.new-readers.ensures read.0 over) r.ensures.sections r.ensures.exact r.ensures.ok store.ensures.blocks store.ensures.counted
