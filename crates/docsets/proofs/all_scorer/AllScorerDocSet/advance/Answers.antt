use Rattle.std.proofs.Common.{◌∙◌, ap, arith, drop, sym}
use Rattle.docsets.proofs.ScoredEntryLaws.{behind-all, none-all}
use Rattle.docsets.proofs.all_scorer.AllScorerDocSet.advance.Goals as goal

pub returns-then-self-eq-TERMINATED-clause-rest : goal.returns-then-self-eq-TERMINATED-clause-rest
returns-then-self-eq-TERMINATED-clause-rest c =
    let small = c.args.self.now.small in
    let none = none-all c.args.self.now.doc c.args.self.now.max_doc (omega (arith, small, c.if-self-eq-TERMINATED.true)) in
    none ∙ sym (ap (drop 1) none)

pub returns-clause-rest : goal.returns-clause-rest
returns-clause-rest c = c.within-self.ensures.same ∙ behind-all c.args.self.now.doc c.args.self.now.max_doc
