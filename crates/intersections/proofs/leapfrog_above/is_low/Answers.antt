use Rattle.std.proofs.Common.{ap, arith, length, true, ◌+◌, ◌∙◌, ◌≡◌}
use Rattle.std.proofs.lemmas.Bool.Decides.{nat_tests}
use Rattle.docsets.specs.Entries.{first}
use Rattle.intersections.proofs.ColumnLaws.{stands-at}
use Rattle.intersections.proofs.ThresholdLaws.{first_own, low_by_one}
use Rattle.intersections.proofs.leapfrog_above.is_low.Given.{Over}
use Rattle.intersections.proofs.leapfrog_above.is_low.Goals.{After-index}
use Rattle.intersections.proofs.leapfrog_above.is_low.Goals as goal

-- the cursor stands on the document
stands : (g : Over) (c : After-index g) → first (g.S.DocSet.entries c.index.result.now) ≡ c.args.doc
stands g c = ap (λ y. first (g.S.DocSet.entries y)) c.index.ensures ∙ stands-at g.S.DocSet.entries g.met.S.DocSet.rising c.args.doc c.loop-i.i c.args.docsets.now.items c.index.result.now c.requires.leads c.requires.all (omega arith)

pub positions_bound-most-requires : goal.positions_bound-most-requires
positions_bound-most-requires g c =
    let here = stands g (goal.at.positions_bound-most-requires g c).After-index in
    let on = c.requires.on in
    omega (arith, here, on)

pub returns-then-is_low : goal.returns-then-is_low
returns-then-is_low g c = λ yes.
    (let x = c.index.result.now in
    let here = stands g (goal.at.returns-then-is_low g c).After-index in
    let few = c.positions_bound-most.ensures in
    let len = c.len-num_docsets.ensures in
    let size = ap length (first_own c.args.doc (g.S.DocSet.entries x) (g.met.S.DocSet.rising x) here c.requires.on) in
    low_by_one g.S.DocSet.entries g.met.S.DocSet.rising g.met.S.Positioned.one_column (g.C.ColumnThreshold.score c.args.threshold.now) (g.C.ColumnThreshold.limit c.args.threshold.now) c.args.doc c.loop-i.i c.positions_bound-most.result _ c.args.docsets.now.items x c.requires.all (omega arith) c.index.ensures (λ e. (let same : c.loop-i.i + 1 ≡ c.len-num_docsets.result = grind (arith, nat_tests, e) in omega (arith, same, len))) (omega (arith, few, size)) (c.is_low.ensures c.if-is_low.true))
