use Rattle.std.proofs.Common.{[], ◌++◌, ◌+◌, ◌-◌, ◌≡◌, ◌∙◌, ◌∷◌, ap, arith, false, get_or, inr, length, map, set, sym, true}
use Rattle.std.proofs.lemmas.Result.{err_from_is_err_and}
use Rattle.postings_writer.specs.Occurrences.{counts_of, docs_of, ends_in}
use Rattle.postings_writer.proofs.Groups.{count_past, count_within, counts_of-again, counts_of-new, docs_of-counts, last_count-new, last_occurrence}
use Rattle.postings_writer.proofs.recorder.TermFrequencyRecorder.record.Goals as goal

pub returns-then-not-stands_last-clause-ok : goal.returns-then-not-stands_last-clause-ok
returns-then-not-stands_last-clause-ok c ps position is =
    let new : ends_in c.args.doc (docs_of ps) ≡ false = ap (ends_in c.args.doc) (sym (ap (map (λ p. p.0)) (c.deref.ensures.value ∙ c.self.view_is ∙ is) ∙ docs_of-counts ps)) ∙ sym c.stands_last.ensures ∙ c.if-not-stands_last.true in
    c.in_ok-push.ensures.items ∙ ap (λ ds. ds ++ (c.args.doc, 1) ∷ []) (c.self.view_is ∙ is) ∙ sym (counts_of-new ps c.args.doc position new)

pub returns-then-not-stands_last-clause-within : goal.returns-then-not-stands_last-clause-within
returns-then-not-stands_last-clause-within c ps position is =
    let new : ends_in c.args.doc (docs_of ps) ≡ false = ap (ends_in c.args.doc) (sym (ap (map (λ p. p.0)) (c.deref.ensures.value ∙ c.self.view_is ∙ is) ∙ docs_of-counts ps)) ∙ sym c.stands_last.ensures ∙ c.if-not-stands_last.true in
    let one = last_count-new ps c.args.doc position new in
    omega arith

pub returns-in_err-raise_last-clause-err : goal.returns-in_err-raise_last-clause-err
returns-in_err-raise_last-clause-err c ps position is =
    let same = c.self.view_is ∙ is in
    let again : ends_in c.args.doc (docs_of ps) ≡ true = ap (ends_in c.args.doc) (sym (ap (map (λ p. p.0)) (c.deref.ensures.value ∙ same) ∙ docs_of-counts ps)) ∙ sym c.stands_last.ensures ∙ c.if-not-stands_last.false in
    let long = last_occurrence c.args.doc ps again in
    let m = length (counts_of ps) - 1 in
    let refused = c.in_err-raise_last.ensures.err in
    let p = err_from_is_err_and c.from_residual-in_err-raise_last.result c.from_residual-in_err-raise_last.ensures.1 in
    rw (p.1, p.2) (inr (refused.0, count_past ps c.self.inside.counts.items c.args.doc position m same again long (refused.1 m (ap length same ∙ long))))

pub returns-clause-ok : goal.returns-clause-ok
returns-clause-ok c ps position is =
    let same = c.self.view_is ∙ is in
    let again : ends_in c.args.doc (docs_of ps) ≡ true = ap (ends_in c.args.doc) (sym (ap (map (λ p. p.0)) (c.deref.ensures.value ∙ same) ∙ docs_of-counts ps)) ∙ sym c.stands_last.ensures ∙ c.if-not-stands_last.false in
    let long = last_occurrence c.args.doc ps again in
    let m = length (counts_of ps) - 1 in
    c.in_ok-raise_last.ensures.ok m (ap length same ∙ long)
    ∙ ap (λ xs. set xs m ((get_or xs m (0, 0)).0, (get_or xs m (0, 0)).1 + 1)) same
    ∙ sym (counts_of-again ps c.args.doc position m again long)

pub returns-clause-within : goal.returns-clause-within
returns-clause-within c ps position is =
    let same = c.self.view_is ∙ is in
    let again : ends_in c.args.doc (docs_of ps) ≡ true = ap (ends_in c.args.doc) (sym (ap (map (λ p. p.0)) (c.deref.ensures.value ∙ same) ∙ docs_of-counts ps)) ∙ sym c.stands_last.ensures ∙ c.if-not-stands_last.false in
    let long = last_occurrence c.args.doc ps again in
    let m = length (counts_of ps) - 1 in
    count_within ps c.self.inside.counts.items c.args.doc position m same again long (c.in_ok-raise_last.ensures.within m (ap length same ∙ long))
