use Rattle.std.proofs.Common.{[], ◌++◌, ◌≡◌, ◌≢◌, ◌≤◌, ◌^◌, ◌∙◌, ◌∷◌, ap, arith, inr, subst}
use Rattle.std.proofs.lemmas.Result.{err_from_is_err_and}
use Rattle.postings_writer.specs.Occurrences.{by_document, last_count}
use Rattle.postings_writer.specs.OccurrenceBytes.{occurrences_in}
use Rattle.postings_writer.proofs.Groups.{count_again, count_anew}
use Rattle.postings_writer.proofs.position_recorder.TfAndPositionRecorder.count_with.Goals as goal

pub returns-then-doc-self-clause-ok : goal.returns-then-doc-self-clause-ok
returns-then-doc-self-clause-ok c position =
    let r = c.self.inside in
    let other : c.args.doc ≢ r.doc = (let test = c.if-doc-self.true in λ same. absurd (omega (arith, test, same))) in
    count_anew (occurrences_in r.len 0 r.bytes.items) c.args.doc r.doc position c.self.invariant.0.last other ∙ ap (λ ps. last_count (by_document (ps ++ (c.args.doc, position) ∷ []))) c.self.view_is

pub returns-in_err-count-clause-err : goal.returns-in_err-count-clause-err
returns-in_err-count-clause-err c position =
    let r = c.self.inside in
    let last : c.args.doc ≡ r.doc = (let test = c.if-doc-self.false in omega (arith, test)) in
    let is = count_again (occurrences_in r.len 0 r.bytes.items) c.args.doc position r.count (last ∙ c.self.invariant.0.last) c.self.invariant.1 ∙ ap (λ ps. last_count (by_document (ps ++ (c.args.doc, position) ∷ []))) c.self.view_is in
    let refused = c.in_err-count.ensures.err in
    let p = err_from_is_err_and c.from_residual.result c.from_residual.ensures.1 in
    rw (p.1, p.2) (inr (refused.0, subst (λ n. 2 ^ 32 ≤ n) is refused.1))

pub returns-clause-ok : goal.returns-clause-ok
returns-clause-ok c position =
    let r = c.self.inside in
    let last : c.args.doc ≡ r.doc = (let test = c.if-doc-self.false in omega (arith, test)) in
    c.in_ok-count.ensures.ok.0
    ∙ count_again (occurrences_in r.len 0 r.bytes.items) c.args.doc position r.count (last ∙ c.self.invariant.0.last) c.self.invariant.1
    ∙ ap (λ ps. last_count (by_document (ps ++ (c.args.doc, position) ∷ []))) c.self.view_is
