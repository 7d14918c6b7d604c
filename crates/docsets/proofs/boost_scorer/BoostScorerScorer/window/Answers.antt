use Rattle.std.proofs.Common.{rules, subst, sym, to_z-of_z, w64, ◌*◌, ◌≤◌, ℕ, ℤ}
use mir.Val.{SFits, of_z, to_z}
use Rattle.definitions.specs.Scoring.{max_score, natural}
use Rattle.docsets.proofs.RescoredBounds.{covers-boosted}
use Rattle.docsets.proofs.boost_scorer.BoostScorerScorer.window.Goals as goal

pub returns-clause-covers : goal.returns-clause-covers
returns-clause-covers g c =
    let s = c.args.self.now in
    let bound = c.window-window.result.bound in
    let fits : SFits w64 bound = search rules in
    let boosted_fits : SFits w64 c.boosted.result = search rules in
    covers-boosted s.boost c.args.target c.window-window.result.until (natural bound) _ (g.S.DocSet.entries s.underlying) s.fits
    (subst (λ (b : ℤ). (score : ℕ) → score ≤ natural b → s.boost * score ≤ max_score → s.boost * score ≤ natural (to_z w64 (of_z w64 c.boosted.result))) (to_z-of_z fits)
    (subst (λ (b : ℤ). (score : ℕ) → score ≤ natural (to_z w64 (of_z w64 bound)) → s.boost * score ≤ max_score → s.boost * score ≤ natural b) (sym (to_z-of_z boosted_fits)) c.boosted.ensures.bound))
    c.window-window.ensures.covers
