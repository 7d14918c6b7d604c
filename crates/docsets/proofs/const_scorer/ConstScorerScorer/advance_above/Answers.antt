use Rattle.std.proofs.Common.{List, arith, pos, subst, sym, to_z-of_z as of_given}
use Rattle.std.specs.Prelude.{drop, ◌≤ℤ◌}
use Rattle.std.proofs.lemmas.Int.{ints, to_z-of_z}
use mir.Syntax.{w64}
use mir.Val.{SFits}
use Rattle.docsets.proofs.RescoredBounds.{not_below, passes_one, passes_rescored}
use Rattle.docsets.specs.Bounds.{PassesLow}
use Rattle.docsets.specs.Entries.{Entry}
use Rattle.docsets.specs.ScoredEntries.{rescored_by}
use Rattle.docsets.specs.ScoredEntryLaws.{Rising-constant}
use Rattle.docsets.proofs.const_scorer.ConstScorerScorer.advance_above.Goals as goal

pub returns-then-self-threshold-clause-passes : goal.returns-then-self-threshold-clause-passes
returns-then-self-threshold-clause-passes g c =
    let s = c.args.self.now in
    let es = g.D.DocSet.entries s.docset in
    passes_one c.args.threshold (rescored_by (λ e. s.score) es) _ (Rising-constant s.score 0 es s.small (g.met.D.DocSet.rising s.docset)) c.advance.ensures.rest

pub returns-clause-passes : goal.returns-clause-passes
returns-clause-passes g c =
    let s = c.args.self.now in
    let es = g.D.DocSet.entries s.docset in
    let rising = g.met.D.DocSet.rising s.docset in
    let small = s.small in
    let fits : SFits w64 (pos s.score) = omega (arith, ints, small) in
    let low : pos s.score ≤ℤ c.args.threshold = subst (λ z. z ≤ℤ c.args.threshold) (to_z-of_z w64 (pos s.score) fits) (not_below _ c.args.threshold _ c.if-self-threshold.false (of_given c.ranges.threshold)) in
    subst (λ (xs : List Entry). PassesLow c.args.threshold (drop 1 (rescored_by (λ e. s.score) es)) (rescored_by (λ e. s.score) xs)) (sym c.seek.ensures.rest)
    (passes_rescored c.args.threshold (λ e. s.score) 0 es rising (Rising-constant s.score 0 es small rising) (λ e. low))
