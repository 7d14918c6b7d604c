use Rattle.std.proofs.Common.{ap, sym, ◌∙◌}
use Rattle.docsets.proofs.ScoredEntryLaws.{from-rescored}
use Rattle.docsets.specs.ScoredEntries.{rescored_by}
use Rattle.docsets.proofs.const_scorer.ConstScorerDocSet.seek.Goals as goal

pub returns-clause-rest : goal.returns-clause-rest
returns-clause-rest g c = ap (rescored_by (λ e. c.args.self.now.score)) c.seek.ensures.rest ∙ sym (from-rescored (λ e. c.args.self.now.score) c.args.target (g.D.DocSet.entries c.args.self.now.docset))
