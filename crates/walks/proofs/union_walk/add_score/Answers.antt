use Rattle.std.proofs.Common.{ap, arith, nat_abs, rules, sym, to_z-of_z, w64, ◌∙◌}
use mir.Val.{SFits}
use Rattle.walks.proofs.UnionWalks.{moved_off, moved_on}
use Rattle.walks.proofs.union_walk.add_score.Goals as goal

pub returns-then-move_to-doc-clause-sum : goal.returns-then-move_to-doc-clause-sum
returns-then-move_to-doc-clause-sum g c =
    let entries = g.S.DocSet.entries in
    let on = sym c.move_to.ensures.at ∙ c.if-move_to-doc.true in
    let here = moved_on c.args.doc (entries c.args.scorer.now) (entries c.move_to.new.docset) (g.met.S.DocSet.rising c.args.scorer.now) c.move_to.ensures.rest on c.requires.small in
    let fits : SFits w64 c.score.result = search rules in
    let score = ap nat_abs (to_z-of_z fits ∙ c.score.ensures.value) in
    omega (arith, here, score)

pub returns-clause-sum : goal.returns-clause-sum
returns-clause-sum g c =
    let entries = g.S.DocSet.entries in
    let none = moved_off c.args.doc (entries c.args.scorer.now) (entries c.move_to.new.docset) (g.met.S.DocSet.rising c.args.scorer.now) c.move_to.ensures.rest (λ on. c.if-move_to-doc.false (c.move_to.ensures.at ∙ on)) c.requires.small in
    omega (arith, none)
