use Rattle.std.proofs.Common.{◌-◌}
use Rattle.definitions.specs.Postings.{terminated}
use Rattle.docsets.proofs.RescoredBounds.{covers-ones}
use Rattle.docsets.proofs.all_scorer.AllScorerScorer.window.Goals as goal

pub returns-clause-covers : goal.returns-clause-covers
returns-clause-covers c = covers-ones c.args.target terminated c.args.self.now.doc (c.args.self.now.max_doc - c.args.self.now.doc)
