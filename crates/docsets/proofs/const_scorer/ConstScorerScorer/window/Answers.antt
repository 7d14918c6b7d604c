use Rattle.std.proofs.Common.{ap, arith, pos, subst, sym, ℕ}
use Rattle.std.proofs.lemmas.Int.{ints, to_z-of_z}
use mir.Syntax.{w64}
use mir.Val.{SFits}
use Rattle.definitions.specs.Postings.{terminated}
use Rattle.definitions.specs.Scoring.{natural}
use Rattle.docsets.proofs.RescoredBounds.{covers-constant}
use Rattle.docsets.specs.Bounds.{Covers}
use Rattle.docsets.specs.ScoredEntries.{rescored_by}
use Rattle.docsets.proofs.const_scorer.ConstScorerScorer.window.Goals as goal

pub returns-clause-covers : goal.returns-clause-covers
returns-clause-covers g c =
    let s = c.args.self.now in
    let es = g.D.DocSet.entries s.docset in
    let small = s.small in
    let fits : SFits w64 (pos s.score) = omega (arith, ints, small) in
    let is = ap natural (to_z-of_z w64 (pos s.score) fits) in
    subst (λ (bound : ℕ). Covers c.args.target terminated bound (rescored_by (λ e. s.score) es)) (sym is)
    (covers-constant s.score c.args.target terminated es)
