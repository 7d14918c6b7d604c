use Rattle.std.proofs.Common.{◌*◌, false, slice_index_or, sym, ◌∙◌}
use Rattle.docsets.proofs.ScoredEntryLaws.{count-rescored, none-rescored}
use Rattle.docsets.proofs.boost_scorer.BoostScorerDocSet.count.Goals as goal

pub count-requires : goal.count-requires
count-requires g c = none-rescored (λ e. c.args.self.now.boost * e.score) _ (g.S.DocSet.entries c.args.self.now.underlying) c.requires

pub returns-clause-count : goal.returns-clause-count
returns-clause-count g c = c.count.ensures.count ∙ sym (count-rescored (λ e. c.args.self.now.boost * e.score) (λ d. slice_index_or c.args.alive.now d false) (g.S.DocSet.entries c.args.self.now.underlying))
