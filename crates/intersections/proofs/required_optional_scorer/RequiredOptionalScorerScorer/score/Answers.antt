use Rattle.std.proofs.Common.{[], List, ap, arith, of_z, pos, sum, sym, to_z, ◌+◌, ◌<◌, ◌∙◌, ◌∷◌, ◌≡◌, ◌≤◌, ℕ}
use Rattle.std.proofs.lemmas.Int.{ints, to_z-of_z}
use Rattle.std.proofs.lemmas.List.{append-nil}
use Rattle.definitions.specs.Postings.{terminated}
use Rattle.definitions.specs.Scoring.{max_score}
use Rattle.docsets.specs.Entries.{first, first_score, from}
use Rattle.docsets.proofs.EntryLaws.{IsRest-from, first-from}
use Rattle.intersections.proofs.OptionalLaws.{optional-first, optional-score}
use Rattle.intersections.specs.OptionalLaws.{optional-fits}
use Rattle.intersections.specs.Optionals.{score_with, with_optional}
use Rattle.docsets.specs.CombiningLaws.{sum-cons}
use Rattle.docsets.specs.ScoredEntries.{greatest_score}
use Rattle.docsets.proofs.ScoredEntryLaws.{IsRest-along, first-rescored, first_score-least, greatest-rest}
use Rattle.docsets.proofs.MemberLaws.{entries-kept}
use Rattle.docsets.specs.Members.{entries_of, scores_in}
use mir.Syntax.{w64}
use mir.Val.{SFits}
use Rattle.intersections.proofs.required_optional_scorer.RequiredOptionalScorerScorer.score.Given.{Over}
use Rattle.intersections.proofs.required_optional_scorer.RequiredOptionalScorerScorer.score.Goals.{After-move_to}
use Rattle.intersections.proofs.required_optional_scorer.RequiredOptionalScorerScorer.score.Goals as goal

-- the document is that of the required scorer, and not the end
at : (g : Over) (c : After-move_to g) → (c.doc-doc.result ≡ first (g.R.DocSet.entries c.args.self.now.req_scorer)) × (c.doc-doc.result < terminated)
at g c =
    let s = c.args.self.now in
    let is = c.doc-doc.ensures in
    let same = first-rescored (score_with (g.C.ScoreCombiner.answer s.fresh) (g.O.DocSet.entries s.opt_scorer)) (g.R.DocSet.entries s.req_scorer) in
    let here = c.requires in
    (is, omega (arith, is, same, here))

-- the optional score is as it was
same_scores : (g : Over) (c : After-move_to g) → scores_in (entries_of c.doc-doc.result (g.O.DocSet.entries c.move_to.new.docset)) ≡ scores_in (entries_of c.doc-doc.result (g.O.DocSet.entries c.args.self.now.opt_scorer))
same_scores g c =
    let doc = c.doc-doc.result in
    ap (λ es. scores_in (entries_of doc es)) c.move_to.ensures.rest ∙ ap scores_in (entries-kept doc doc (g.O.DocSet.entries c.args.self.now.opt_scorer) (omega arith))

-- the scores fit
both-fit : (g : Over) (c : After-move_to g) → first_score (g.R.DocSet.entries c.args.self.now.req_scorer) + sum (scores_in (entries_of c.doc-doc.result (g.O.DocSet.entries c.args.self.now.opt_scorer))) ≤ max_score
both-fit g c =
    let s = c.args.self.now in
    let es = g.R.DocSet.entries s.req_scorer in
    optional-fits c.doc-doc.result (first_score es) es (g.O.DocSet.entries s.opt_scorer) (g.met.O.DocSet.rising s.opt_scorer) (first_score-least es) s.fits

pub take_score-requires-clause-leads : goal.take_score-requires-clause-leads
take_score-requires-clause-leads g c =
    let on = (at g (goal.at.take_score-requires-clause-leads g c).After-move_to).1 in
    let low = first-from c.doc-doc.result (g.O.DocSet.entries c.args.self.now.opt_scorer) (omega (arith, on)) in
    let is = ap first c.move_to.ensures.rest in
    omega (arith, low, is)

pub take_score-requires-clause-fits : goal.take_score-requires-clause-fits
take_score-requires-clause-fits g c =
    let taken = c.update.ensures.total in
    let unused = c.args.self.now.unused in
    let same = ap sum (same_scores g (goal.at.take_score-requires-clause-fits g c).After-move_to) in
    let fits = both-fit g (goal.at.take_score-requires-clause-fits g c).After-move_to in
    omega (arith, taken, unused, same, fits)

pub invariant_of-self : goal.invariant_of-self
invariant_of-self g c =
    let s = c.args.self.now in
    let os = g.O.DocSet.entries s.opt_scorer in
    let doc = c.doc-doc.result in
    let rest = g.O.DocSet.entries c.take_score.new.scorer in
    let required = ap greatest_score c.update.ensures.same in
    let less = greatest-rest rest os (IsRest-along rest (from doc os) os (c.take_score.ensures.same ∙ c.move_to.ensures.rest) (IsRest-from doc 0 os (g.met.O.DocSet.rising s.opt_scorer))) in
    let fits = s.fits in
    record { unused = s.unused; adds = s.adds; fits = omega (arith, required, less, fits) }

pub returns-clause-same : goal.returns-clause-same
returns-clause-same g c =
    let s = c.args.self.now in
    let es = g.R.DocSet.entries s.req_scorer in
    let os = g.O.DocSet.entries s.opt_scorer in
    let f = g.C.ScoreCombiner.answer s.fresh in
    ap (λ xs. with_optional f xs (g.O.DocSet.entries c.take_score.new.scorer)) c.update.ensures.same
    ∙ (ap (with_optional f es) (c.take_score.ensures.same ∙ c.move_to.ensures.rest)
    ∙ (ap (λ t. with_optional f es (from t os)) (at g (goal.at.returns-clause-same g c).After-move_to).0
    ∙ optional-first f es os (g.met.R.DocSet.rising s.req_scorer)))

pub returns-clause-value : goal.returns-clause-value
returns-clause-value g c =
    let s = c.args.self.now in
    let before = (goal.at.returns-clause-value g c).After-move_to in
    let es = g.R.DocSet.entries s.req_scorer in
    let os = g.O.DocSet.entries s.opt_scorer in
    let answer = g.C.ScoreCombiner.answer in
    let doc = c.doc-doc.result in
    let scores : List ℕ = scores_in (entries_of doc os) in
    let here = at g before in
    let is_first = here.0 in
    let on = here.1 in
    let n : ℕ = answer s.fresh (first_score es ∷ scores) in
    let is : c.score.result ≡ pos n = c.score.ensures ∙ ap pos (c.take_score.ensures.answer [] ∙ (ap (answer c.update.new.self) (append-nil (scores_in (entries_of doc (g.O.DocSet.entries c.move_to.new.docset))) ∙ same_scores g before) ∙ c.update.ensures.answer scores)) in
    let unused = s.unused in
    let more = sum-cons (first_score es) scores in
    let both = both-fit g before in
    let small : n ≤ max_score = g.met.C.ScoreCombiner.bounded s.fresh (first_score es ∷ scores) (omega (arith, unused, more, both)) in
    let fits : SFits w64 (pos n) = omega (arith, ints, small) in
    ap (λ z. to_z w64 (of_z w64 z)) is ∙ (to_z-of_z w64 (pos n) fits ∙ ap pos (ap (λ d. answer s.fresh (first_score es ∷ scores_in (entries_of d os))) is_first ∙ sym (optional-score (answer s.fresh) es os (omega (arith, is_first, on)))))
