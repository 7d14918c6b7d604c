use Rattle.docsets.proofs.ScoredEntryLaws.{danger-rescored}
use Rattle.docsets.proofs.const_scorer.ConstScorerDocSet.seek_danger.Goals as goal

pub returns : goal.returns
returns g c = danger-rescored (λ e. c.args.self.now.score) c.seek_danger.result c.args.target (g.D.DocSet.entries c.args.self.now.docset) (g.D.DocSet.entries c.seek_danger.new.self) c.seek_danger.ensures
