use Rattle.std.proofs.Common.{ap, arith, nat_abs, rules, to_z-of_z, w64, ◌∙◌}
use Rattle.definitions.proofs.Bounds.{not_negative}
use mir.Val.{SFits}
use Rattle.definitions.specs.Scoring.{natural}
use Rattle.walks.proofs.UnionWalks.{covers_behind, covers_less}
use Rattle.walks.proofs.union_walk.bound_before.Goals as goal

pub returns-then-doc-until-clause-covers : goal.returns-then-doc-until-clause-covers
returns-then-doc-until-clause-covers g c =
    let at = c.doc.ensures in
    let late = c.if-doc-until.true in
    covers_behind c.args.target c.args.until 0 (g.S.DocSet.entries c.args.scorer.now) (omega (arith, at, late)) (g.met.S.DocSet.rising c.args.scorer.now)

pub returns-clause-covers : goal.returns-clause-covers
returns-clause-covers g c =
    let window = c.window-window.result in
    let fits : SFits w64 window.bound = search rules in
    let bound = ap nat_abs (to_z-of_z fits) ∙ not_negative window.bound c.window-window.ensures.positive in
    let until = c.min-2.ensures in
    let score = c.min.ensures in
    covers_less c.args.target window.until (natural window.bound) _ _ 0 (g.S.DocSet.entries c.args.scorer.now) (omega (arith, until)) (λ s few most. omega (arith, few, most, score, bound)) (g.met.S.DocSet.rising c.args.scorer.now) c.window-window.ensures.covers
