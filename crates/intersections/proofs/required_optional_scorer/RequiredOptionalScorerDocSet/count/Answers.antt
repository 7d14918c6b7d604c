use Rattle.std.proofs.Common.{false, slice_index_or, sym, ◌∙◌}
use Rattle.docsets.proofs.ScoredEntryLaws.{count-rescored, none-rescored}
use Rattle.intersections.specs.Optionals.{score_with}
use Rattle.intersections.proofs.required_optional_scorer.RequiredOptionalScorerDocSet.count.Goals as goal

pub count-requires : goal.count-requires
count-requires g c = none-rescored (score_with (g.C.ScoreCombiner.answer c.args.self.now.fresh) (g.O.DocSet.entries c.args.self.now.opt_scorer)) _ (g.R.DocSet.entries c.args.self.now.req_scorer) c.requires

pub returns-clause-count : goal.returns-clause-count
returns-clause-count g c = c.count.ensures.count ∙ sym (count-rescored (score_with (g.C.ScoreCombiner.answer c.args.self.now.fresh) (g.O.DocSet.entries c.args.self.now.opt_scorer)) (λ d. slice_index_or c.args.alive.now d false) (g.R.DocSet.entries c.args.self.now.req_scorer))
