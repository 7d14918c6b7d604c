use Rattle.std.proofs.Common.{ap, arith, sym, ◌++◌, ◌∙◌, ◌≢◌}
use Rattle.docsets.specs.Entries.{first}
use Rattle.docsets.proofs.MemberLaws.{entries-off, scores-on}
use Rattle.docsets.specs.Members.{scores_in}
use Rattle.docsets.proofs.scores.take_score.Goals as goal

pub returns-then-doc-clause-answer : goal.returns-then-doc-clause-answer
returns-then-doc-clause-answer g c =
    let es = g.S.DocSet.entries c.args.scorer.now in
    let answer = g.C.ScoreCombiner.answer in
    let at = c.doc.ensures in
    let here = scores-on c.args.doc es (g.met.S.DocSet.rising c.args.scorer.now) (omega (arith, at)) c.requires.on in
    λ xs. c.update.ensures.answer xs ∙ ap (λ ys. answer c.args.combiner.now (ys ++ xs)) (sym here)

pub returns-else-doc-clause-answer : goal.returns-else-doc-clause-answer
returns-else-doc-clause-answer g c =
    let es = g.S.DocSet.entries c.args.scorer.now in
    let answer = g.C.ScoreCombiner.answer in
    let at = c.doc.ensures in
    let isnt = c.if-doc.false in
    let apart : first es ≢ c.args.doc = λ e. isnt (omega (arith, at, e)) in
    let none = entries-off c.args.doc es (g.met.S.DocSet.rising c.args.scorer.now) c.requires.leads apart in
    λ xs. ap (λ ys. answer c.args.combiner.now (scores_in ys ++ xs)) (sym none)
