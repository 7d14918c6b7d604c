use Rattle.definitions.specs.Postings.{terminated}
use Rattle.docsets.proofs.BoundLaws.{covers-all}
use Rattle.docsets.proofs.scorer.Scorer.window.Goals as goal

pub returns-clause-covers : goal.returns-clause-covers
returns-clause-covers g c = covers-all c.args.target terminated 0 (g.Self.DocSet.entries c.args.self.now) (g.met.Self.DocSet.rising c.args.self.now)
