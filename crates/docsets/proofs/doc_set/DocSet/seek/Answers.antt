use Rattle.std.proofs.Common.{arith, sym, ◌∙◌}
use Rattle.docsets.proofs.EntryLaws.{from-first}
use Rattle.docsets.proofs.doc_set.DocSet.seek.Goals as goal

pub returns-clause-rest : goal.returns-clause-rest
returns-clause-rest g c =
    let rises = g.met.Self.DocSet.rising c.loop-doc.self in
    let all = from-first c.args.target 0 (g.Self.DocSet.entries c.loop-doc.self) (omega arith) rises in
    sym all ∙ c.loop-doc.invariant.rest
