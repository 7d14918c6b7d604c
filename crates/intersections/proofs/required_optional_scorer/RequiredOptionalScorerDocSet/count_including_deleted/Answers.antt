use Rattle.std.proofs.Common.{sym, ◌∙◌}
use Rattle.docsets.proofs.ScoredEntryLaws.{length-rescored}
use Rattle.intersections.specs.Optionals.{score_with}
use Rattle.intersections.proofs.required_optional_scorer.RequiredOptionalScorerDocSet.count_including_deleted.Goals as goal

pub returns-clause-count : goal.returns-clause-count
returns-clause-count g c = c.count_including_deleted.ensures.count ∙ sym (length-rescored (score_with (g.C.ScoreCombiner.answer c.args.self.now.fresh) (g.O.DocSet.entries c.args.self.now.opt_scorer)) (g.R.DocSet.entries c.args.self.now.req_scorer))
