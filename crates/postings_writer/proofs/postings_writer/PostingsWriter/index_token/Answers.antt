use Rattle.std.proofs.Common.{[], ◌++◌, ◌≡◌, ◌≤◌, ◌∷◌, List, ap, arith, length, subst, sym, ℕ}
use Rattle.std.proofs.lemmas.Result.{err_from_is_err_and}
use Rattle.common.specs.Buffers.{token_of_ref}
use Rattle.definitions.specs.Analyzers.{max_token_len}
use Rattle.definitions.specs.Values.{Token}
use Rattle.postings_writer.specs.Occurrences.{places_of}
use Rattle.postings_writer.specs.Recorders.{IsCountRefusal}
use Rattle.postings_writer.specs.Texts.{IsTextRefusal}
use Rattle.postings_writer.proofs.TextRuns.{kept_one, one_refused}
use Rattle.postings_writer.proofs.postings_writer.PostingsWriter.index_token.Goals as goal

pub returns-in_err-subscribe_text-clause-err : goal.returns-in_err-subscribe_text-clause-err
returns-in_err-subscribe_text-clause-err c os stands =
    let t : Token = token_of_ref c.args.token in
    let prefix = c.args.term_buffer.now.items in
    let term : prefix ++ c.as_bytes.result.now ≡ prefix ++ t.text = ap (λ bs. prefix ++ bs) c.as_bytes.ensures.value in
    let short : length t.text ≤ max_token_len = (let test = c.if-token-gt-MAX_TOKEN_LEN.false in omega arith) in
    let p = err_from_is_err_and c.from_residual-in_err-subscribe_text.result c.from_residual-in_err-subscribe_text.ensures.1 in
    let P : List ℕ → Type 0 = λ bs. IsCountRefusal c.in_err-subscribe_text.field-0.0 (places_of bs os ++ (c.args.doc, c.in_ok-position.position) ∷ []) in
    let Q : List Token → Type 0 = λ ts. IsTextRefusal c.in_err-subscribe_text.field-0.0 os c.args.doc prefix c.args.gap c.args.start ts in
    rw (p.1, p.2) (subst Q (sym (kept_one t short)) (one_refused c.in_err-subscribe_text.field-0.0 os c.args.doc prefix c.args.gap c.args.start t c.in_ok-position.position c.in_ok-position.ensures.ok.0 (subst P term (c.in_err-subscribe_text.ensures.err os stands))))
