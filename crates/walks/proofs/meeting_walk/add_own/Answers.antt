use Rattle.std.proofs.Common.{ap, arith, nat_abs, rules, sym, to_z-of_z, w64, ◌∙◌}
use mir.Val.{SFits}
use Rattle.walks.proofs.MeetingWalks.{none_of, one_of}
use Rattle.walks.proofs.UnionWalks.{moved_on}
use Rattle.walks.proofs.meeting_walk.add_own.Goals as goal

pub returns-then-move_to-doc-clause-lacks : goal.returns-then-move_to-doc-clause-lacks
returns-then-move_to-doc-clause-lacks g c =
    let entries = g.S.DocSet.entries in
    none_of c.args.doc (entries c.args.scorer.now) (entries c.move_to.new.docset) (g.met.S.DocSet.rising c.args.scorer.now) c.move_to.ensures.rest (λ on. c.if-move_to-doc.true (c.move_to.ensures.at ∙ on)) c.requires.small

pub returns-clause-has : goal.returns-clause-has
returns-clause-has g c =
    let entries = g.S.DocSet.entries in
    let on = sym c.move_to.ensures.at ∙ c.if-move_to-doc.false in
    let here = moved_on c.args.doc (entries c.args.scorer.now) (entries c.move_to.new.docset) (g.met.S.DocSet.rising c.args.scorer.now) c.move_to.ensures.rest on c.requires.small in
    let fits : SFits w64 c.score.result = search rules in
    let score = ap nat_abs (to_z-of_z fits ∙ c.score.ensures.value) in
    (one_of c.args.doc (entries c.args.scorer.now) (entries c.move_to.new.docset) (g.met.S.DocSet.rising c.args.scorer.now) c.move_to.ensures.rest on c.requires.small, omega (arith, here, score))
