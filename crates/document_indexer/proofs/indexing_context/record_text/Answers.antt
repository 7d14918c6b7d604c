use Rattle.std.proofs.Common.{◌∙◌, ◌++◌, ◌^◌, ◌≡◌, List, Some, ap, bytes_eq, cond, min, subst, ℕ}
use Rattle.std.proofs.lemmas.Result.{err_from_is_err_and}
use Rattle.std.specs.Map.{lookup}
use Rattle.definitions.specs.Analyzers.{kept}
use Rattle.definitions.specs.Places.{next_start}
use Rattle.definitions.specs.Values.{Token}
use Rattle.postings_writer.specs.Occurrences.{Occurrence}
use Rattle.postings_writer.specs.Texts.{AreWithin, IsTextRefusal, text_occurrences}
use Rattle.postings_writer.specs.Writers.{Stands}
use Rattle.document_indexer.specs.Contexts.{start_of}
use Rattle.document_indexer.proofs.Recording.{text_recorded, text_refused}
use Rattle.document_indexer.proofs.indexing_context.record_text.Goals as goal

pub returns-in_err-text-clause-err : goal.returns-in_err-text-clause-err
returns-in_err-text-clause-err c =
    let ts : List Token = kept c.args.tokens.now.1 in
    let prefix : List ℕ = c.args.term_buffer.now.items in
    let doc : ℕ = c.args.doc in
    let fault = c.in_err-text.field-0.0 in
    let start = c.start_of-start.result in
    let p = err_from_is_err_and c.from_residual.result c.from_residual.ensures.1 in
    let stream : kept (c.new-stream.result.1) ≡ ts = ap (λ (s : _). kept s.1) c.new-stream.ensures in
    let Q : List Token → Type 0 = λ xs. (os : List Occurrence) (real : ℕ) → Stands c.args.schema.now c.args.postings_writer.now os → start ≡ min (2 ^ 31) real → IsTextRefusal fault os doc prefix c.args.gap real xs in
    rw (p.1, p.2) (text_refused fault c.args.schema.now c.args.postings_writer.now c.args.positions.now doc prefix c.args.gap start ts (c.start_of-start.ensures ∙ ap (λ bs. start_of doc bs c.args.positions.now) c.deref.ensures.value) (subst Q stream c.in_err-text.ensures.err))

pub returns-clause-ok : goal.returns-clause-ok
returns-clause-ok c =
    let ts : List Token = kept c.args.tokens.now.1 in
    let prefix : List ℕ = c.args.term_buffer.now.items in
    let doc : ℕ = c.args.doc in
    let start = c.start_of-start.result in
    let next = c.in_ok-text.text.next_start in
    let stream : kept (c.new-stream.result.1) ≡ ts = ap (λ (s : _). kept s.1) c.new-stream.ensures in
    let Q : List Token → Type 0 = λ xs. (os : List Occurrence) (real : ℕ) → Stands c.args.schema.now c.args.postings_writer.now os → start ≡ min (2 ^ 31) real → Stands c.args.schema.now c.index_text.new.self (os ++ text_occurrences doc prefix real xs) in
    let R : List Token → Type 0 = λ xs. (real : ℕ) → start ≡ min (2 ^ 31) real → next ≡ min (2 ^ 31) (next_start c.args.gap real xs) in
    let W : List Token → Type 0 = λ xs. (real : ℕ) → start ≡ min (2 ^ 31) real → AreWithin c.args.gap real xs in
    let same = c.in_ok-text.ensures.same in
    let S : List ℕ → Type 0 = λ bs. (other : List ℕ) → lookup (bytes_eq other) c.set_start.new.self ≡ cond (bytes_eq bs other) (Some (doc, next)) (lookup (bytes_eq other) c.args.positions.now) in
    (text_recorded c.args.schema.now c.args.postings_writer.now c.index_text.new.self c.args.positions.now c.set_start.new.self doc prefix c.args.gap start next ts
    (c.start_of-start.ensures ∙ ap (λ bs. start_of doc bs c.args.positions.now) c.deref.ensures.value)
    (subst Q stream c.in_ok-text.ensures.ok)
    (subst R stream c.in_ok-text.ensures.next)
    (subst W stream c.in_ok-text.ensures.within)
    same.0 same.1 (subst S (c.deref-2.ensures.value ∙ same.2) c.in_ok-set_start.ensures))
