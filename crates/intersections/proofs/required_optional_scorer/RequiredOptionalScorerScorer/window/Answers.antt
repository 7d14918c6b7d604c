use Rattle.std.proofs.Common.{arith, rules, true, ◌≡◌}
use Rattle.definitions.specs.Scoring.{natural}
use Rattle.docsets.proofs.BoundLaws.{covers-all}
use Rattle.intersections.proofs.OptionalLaws.{covers_alone, covers_sums}
use Rattle.intersections.specs.OptionalLaws.{Rising-optional}
use Rattle.intersections.specs.Optionals.{with_optional}
use Rattle.intersections.proofs.required_optional_scorer.RequiredOptionalScorerScorer.window.Goals as goal

pub returns-then-not-self-clause-covers : goal.returns-then-not-self-clause-covers
returns-then-not-self-clause-covers g c =
    let s = c.args.self.now in
    let es = g.R.DocSet.entries s.req_scorer in
    let os = g.O.DocSet.entries s.opt_scorer in
    covers-all c.args.target _ 0 (with_optional (g.C.ScoreCombiner.answer s.fresh) es os) (Rising-optional g.C.ScoreCombiner.answer g.C.ScoreCombiner.total g.met.C.ScoreCombiner.bounded s.fresh es os (g.met.R.DocSet.rising s.req_scorer) (g.met.O.DocSet.rising s.opt_scorer) s.unused s.fits)

pub returns-then-doc-own-clause-covers : goal.returns-then-doc-own-clause-covers
returns-then-doc-own-clause-covers g c =
    let s = c.args.self.now in
    let es = g.R.DocSet.entries s.req_scorer in
    let os = g.O.DocSet.entries s.opt_scorer in
    let sums : s.sums ≡ true = search rules in
    let at = c.doc.ensures in
    let late = c.if-doc-own.true in
    covers_alone (g.C.ScoreCombiner.answer s.fresh) c.args.target c.window-own.result.until (natural c.window-own.result.bound) 0 es os (s.adds sums) (omega (arith, at, late)) (g.met.O.DocSet.rising s.opt_scorer) (Rising-optional g.C.ScoreCombiner.answer g.C.ScoreCombiner.total g.met.C.ScoreCombiner.bounded s.fresh es os (g.met.R.DocSet.rising s.req_scorer) (g.met.O.DocSet.rising s.opt_scorer) s.unused s.fits) c.window-own.ensures.covers

pub returns-clause-covers : goal.returns-clause-covers
returns-clause-covers g c =
    let s = c.args.self.now in
    let es = g.R.DocSet.entries s.req_scorer in
    let os = g.O.DocSet.entries s.opt_scorer in
    let sums : s.sums ≡ true = search rules in
    let own = c.window-own.result in
    let more = c.window.result in
    let until = c.joint.ensures.until in
    let rises = Rising-optional g.C.ScoreCombiner.answer g.C.ScoreCombiner.total g.met.C.ScoreCombiner.bounded s.fresh es os (g.met.R.DocSet.rising s.req_scorer) (g.met.O.DocSet.rising s.opt_scorer) s.unused s.fits in
    covers_sums (g.C.ScoreCombiner.answer s.fresh) c.args.target own.until more.until c.joint.result.until (natural own.bound) (natural more.bound) (natural c.joint.result.bound) 0 es os (s.adds sums) (omega (arith, until)) (omega (arith, until)) c.joint.ensures.bound (g.met.O.DocSet.rising s.opt_scorer) rises c.window-own.ensures.covers c.window.ensures.covers
