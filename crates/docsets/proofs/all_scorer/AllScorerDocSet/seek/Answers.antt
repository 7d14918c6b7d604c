use Rattle.std.proofs.Common.{◌∙◌}
use Rattle.docsets.proofs.ScoredEntryLaws.{sought-all}
use Rattle.docsets.proofs.all_scorer.AllScorerDocSet.seek.Goals as goal

pub returns-clause-rest : goal.returns-clause-rest
returns-clause-rest c = c.within-self.ensures.same ∙ sought-all c.args.target c.args.self.now.doc c.args.self.now.max_doc c.args.self.now.ends c.requires.ahead
