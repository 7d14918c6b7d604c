use Rattle.std.proofs.Common.{[], List, ap, subst, sym, ◌++◌, ◌∷◌, ℕ}
use Rattle.std.proofs.lemmas.Result.{err_from_is_err_and}
use Rattle.postings_writer.specs.FieldWriting.{FieldWriting, IsOpen}
use Rattle.postings_writer.specs.TermWriting.{IsSumRefusal, recorded_count}
use Rattle.postings_writer.proofs.field_serializer.FieldSerializer.write_doc.Goals as goal

pub returns-in_err-write_doc-clause-err : goal.returns-in_err-write_doc-clause-err
returns-in_err-write_doc-clause-err c docs counts numbers is =
    let P : FieldWriting → Type 0 = λ x. IsOpen x docs counts numbers in
    let Q : List ℕ → Type 0 = λ xs. IsSumRefusal c.in_err-write_doc.field-0.0 xs in
    let open_term = subst P (sym c.self.view_is) is in
    let same = ap (λ (x : FieldWriting). counts ++ recorded_count x.writing.option c.args.term_freq ∷ []) c.self.view_is in
    let p = err_from_is_err_and c.from_residual.result c.from_residual.ensures.1 in
    rw (p.1, p.2) (subst Q same (c.in_err-write_doc.ensures.sums docs counts open_term.written))
