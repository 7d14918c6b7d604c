use Rattle.std.proofs.Common.{ap, arith, drop, nat_abs, rules, sym, to_z-of_z, w64, ◌+◌, ◌∙◌, ◌≡◌}
use mir.Val.{SFits}
use Rattle.docsets.proofs.EntryLaws.{drop-one, from-first}
use Rattle.docsets.specs.Entries.{first, from}
use Rattle.walks.proofs.UnionWalks.{none_here, score_here}
use Rattle.walks.proofs.union_walk.take_one.Goals as goal

pub returns-then-current-doc-clause-moved : goal.returns-then-current-doc-clause-moved
returns-then-current-doc-clause-moved g c =
    let es = g.S.DocSet.entries c.args.scorer.now in
    let leads = c.requires.leads in
    let at = c.doc-current.ensures in
    let off = c.if-current-doc.true in
    sym (from-first (c.args.doc + 1) 0 es (omega (arith, leads, at, off)) (g.met.S.DocSet.rising c.args.scorer.now))

pub returns-then-current-doc-clause-score : goal.returns-then-current-doc-clause-score
returns-then-current-doc-clause-score g c =
    let none = none_here c.args.doc (g.S.DocSet.entries c.args.scorer.now) (g.met.S.DocSet.rising c.args.scorer.now) c.requires.leads (λ on. c.if-current-doc.true (c.doc-current.ensures ∙ on)) in
    omega (arith, none)

pub returns-clause-moved : goal.returns-clause-moved
returns-clause-moved g c =
    let es = g.S.DocSet.entries c.args.scorer.now in
    let on : first es ≡ c.args.doc = sym c.doc-current.ensures ∙ c.if-current-doc.false in
    c.advance.ensures.rest ∙ (ap (drop 1) c.score.ensures.same ∙ (drop-one 0 es (g.met.S.DocSet.rising c.args.scorer.now) ∙ ap (λ d. from (d + 1) es) on))

pub returns-clause-score : goal.returns-clause-score
returns-clause-score g c =
    let es = g.S.DocSet.entries c.args.scorer.now in
    let here = score_here c.args.doc es (g.met.S.DocSet.rising c.args.scorer.now) (sym c.doc-current.ensures ∙ c.if-current-doc.false) c.requires.small in
    let fits : SFits w64 c.score.result = search rules in
    let score = ap nat_abs (to_z-of_z fits ∙ c.score.ensures.value) in
    omega (arith, here, score)
