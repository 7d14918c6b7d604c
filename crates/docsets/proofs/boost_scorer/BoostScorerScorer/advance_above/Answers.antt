use Rattle.std.proofs.Common.{List, ap, rules, subst, sym, to_z-of_z, w64, ◌*◌, ◌∙◌}
use mir.Val.{SFits}
use Rattle.std.specs.Prelude.{drop, pos, ◌≤ℤ◌, ℕ, ℤ}
use Rattle.docsets.proofs.RescoredBounds.{IsRest-behind, boosted_to_zero, not_below, passes_boosted, passes_one, passes_rescored}
use Rattle.docsets.proofs.ScoredEntryLaws.{IsRest-along, boost-fits, drop-rescored, greatest-rest}
use Rattle.docsets.specs.Bounds.{PassesLow}
use Rattle.docsets.specs.Entries.{Entry, first}
use Rattle.docsets.specs.ScoredEntries.{greatest_score, rescored_by}
use Rattle.docsets.specs.ScoredEntryLaws.{Rising-boosted}
use Rattle.docsets.proofs.boost_scorer.BoostScorerScorer.advance_above.Goals as goal

pub returns-then-threshold-lt0-clause-passes : goal.returns-then-threshold-lt0-clause-passes
returns-then-threshold-lt0-clause-passes g c =
    let s = c.args.self.now in
    let es = g.S.DocSet.entries s.underlying in
    passes_one c.args.threshold (rescored_by (λ e. s.boost * e.score) es) _ (Rising-boosted s.boost 0 es s.fits (g.met.S.DocSet.rising s.underlying))
    (ap (rescored_by (λ e. s.boost * e.score)) c.advance.ensures.rest ∙ sym (drop-rescored (λ e. s.boost * e.score) 1 es))

pub returns-then-self-eq0-clause-passes : goal.returns-then-self-eq0-clause-passes
returns-then-self-eq0-clause-passes g c =
    let s = c.args.self.now in
    let es = g.S.DocSet.entries s.underlying in
    let rising = g.met.S.DocSet.rising s.underlying in
    subst (λ (xs : List Entry). PassesLow c.args.threshold (drop 1 (rescored_by (λ e. s.boost * e.score) es)) (rescored_by (λ e. s.boost * e.score) xs)) (sym c.seek.ensures.rest)
    (passes_rescored c.args.threshold (λ e. s.boost * e.score) 0 es rising (Rising-boosted s.boost 0 es s.fits rising) (λ e. boosted_to_zero s.boost c.args.threshold c.if-self-eq0.true (not_below _ c.args.threshold (pos 0) c.if-threshold-lt0.false (to_z-of_z c.ranges.threshold)) e.score))

pub invariant_of-self-2 : goal.invariant_of-self-2
invariant_of-self-2 g c =
    let s = c.args.self.now in
    let es = g.S.DocSet.entries s.underlying in
    let left = g.S.DocSet.entries c.advance_above.new.self in
    record { fits = boost-fits s.boost (greatest_score left) (greatest_score es) (greatest-rest left es (IsRest-along left _ es c.advance_above.ensures.passes.rest (IsRest-behind (first left) 0 es (g.met.S.DocSet.rising s.underlying)))) s.fits }

pub returns-clause-passes : goal.returns-clause-passes
returns-clause-passes g c =
    let s = c.args.self.now in
    let es = g.S.DocSet.entries s.underlying in
    let left = g.S.DocSet.entries c.advance_above.new.self in
    let given = c.shared.result in
    let fits : SFits w64 given = search rules in
    passes_boosted s.boost given c.args.threshold es left
    (subst (λ (t : ℤ). (score : ℕ) → pos score ≤ℤ given → pos (s.boost * score) ≤ℤ t) (to_z-of_z c.ranges.threshold) c.shared.ensures)
    (subst (λ (t : ℤ). PassesLow t (drop 1 es) left) (to_z-of_z fits) c.advance_above.ensures.passes)
