use Rattle.std.proofs.Common.{◌*◌, sym, ◌∙◌}
use Rattle.docsets.proofs.ScoredEntryLaws.{length-rescored}
use Rattle.docsets.proofs.boost_scorer.BoostScorerDocSet.count_including_deleted.Goals as goal

pub returns-clause-count : goal.returns-clause-count
returns-clause-count g c = c.count_including_deleted.ensures.count ∙ sym (length-rescored (λ e. c.args.self.now.boost * e.score) (g.S.DocSet.entries c.args.self.now.underlying))
