use Rattle.std.proofs.Common.{List, arith, ap, map, subst, take, cond, ◌≡◌, ◌∙◌, ℕ}
use Rattle.std.proofs.lemmas.Result.{err_from_is_err_and}
use Rattle.definitions.specs.Schema.{IndexRecordOption, basic}
use Rattle.terms.specs.TextKeys.{is_text_key}
use Rattle.postings_writer.specs.Sections.{option_in}
use Rattle.postings_writer.specs.Serializing.{IsWrittenTerm, postings_from}
use Rattle.postings_writer.specs.declared.recorder.Recorder.{Recorder}
use Rattle.postings_writer.proofs.WrittenFields.{added_next, mapped_more, term_refused}
use Rattle.terms.specs.Kinds.{kind_of}
use Rattle.postings_writer.proofs.serialize_field.serialize_terms.Goals as goal

pub loop-key-preserved : goal.loop-key-preserved
loop-key-preserved c =
    let x = c.loop-key-item.result in
    let key = x.0.now in
    let r = x.1.now in
    let kind = kind_of c.args.kind in
    let was = c.args.serializer.now in
    let now = c.loop-key.serializer in
    let new = c.serialize_term.new.serializer in
    let inv = c.loop-key.invariant in
    let rs : List (List ℕ × Recorder) = map (λ t. (t.0.now, t.1.now)) (take c.loop-key.key-index c.args.terms.now) in
    let P : IndexRecordOption → Type 0 = λ o. IsWrittenTerm now new key o (postings_from r 0) in
    let option : cond c.is_text_value.result now.writing.mode basic ≡ option_in kind was.writing.mode key = ap (λ b. cond b now.writing.mode basic) c.is_text_value.ensures ∙ ap (λ m. cond (is_text_key kind key) m basic) inv.1.same.1 in
    let w : IsWrittenTerm now new key (option_in kind was.writing.mode key) (postings_from r 0) = subst P option c.in_ok-serialize_term.ensures.ok in
    added_next kind was now new rs inv.0 key r inv.1 w _ (mapped_more (λ t. (t.0.now, t.1.now)) c.args.terms.now c.loop-key.key-index x (omega arith) c.loop-key-item.is)

pub returns-in_err-serialize_term-clause-err : goal.returns-in_err-serialize_term-clause-err
returns-in_err-serialize_term-clause-err c =
    let x = c.loop-key-item.result in
    let kind = kind_of c.args.kind in
    let was = c.args.serializer.now in
    let now = c.loop-key.serializer in
    let inv = c.loop-key.invariant in
    let option : cond c.is_text_value.result now.writing.mode basic ≡ option_in kind was.writing.mode x.0.now = ap (λ b. cond b now.writing.mode basic) c.is_text_value.ensures ∙ ap (λ m. cond (is_text_key kind x.0.now) m basic) inv.1.same.1 in
    let p = err_from_is_err_and c.from_residual.result c.from_residual.ensures.1 in
    rw (p.1, p.2) (term_refused c.in_err-serialize_term.field-0.0 kind was now (λ t. (t.0.now, t.1.now)) c.args.terms.now inv.0 c.loop-key.key-index x (cond c.is_text_value.result now.writing.mode basic) inv.1 (omega arith) c.loop-key-item.is option c.in_err-serialize_term.ensures.err)
