use Rattle.std.proofs.Common.{ap, arith, sym, ◌+◌, ◌∙◌, ◌≡◌}
use Rattle.docsets.specs.Entries.{first, from}
use Rattle.docsets.proofs.EntryLaws.{drop-one, from-first}
use Rattle.docsets.proofs.moves.move_to.Goals as goal

pub returns-then-doc-target-clause-rest : goal.returns-then-doc-target-clause-rest
returns-then-doc-target-clause-rest g c =
    let at = c.doc-doc.ensures in
    sym (from-first c.args.target 0 (g.D.DocSet.entries c.args.docset.now) (omega (arith, at)) (g.met.D.DocSet.rising c.args.docset.now))

pub returns-then-doc-target-2-clause-rest : goal.returns-then-doc-target-2-clause-rest
returns-then-doc-target-2-clause-rest g c =
    let es = g.D.DocSet.entries c.args.docset.now in
    let at = c.doc-doc.ensures in
    let is : first es + 1 ≡ c.args.target = omega (arith, at) in
    c.advance.ensures.rest ∙ (drop-one 0 es (g.met.D.DocSet.rising c.args.docset.now) ∙ ap (λ t. from t es) is)
