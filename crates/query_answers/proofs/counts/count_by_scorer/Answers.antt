use Rattle.std.proofs.Common.{subst}
use Rattle.query_trees.specs.Queries.{query_of}
use Rattle.scorer_answers.proofs.AnswerLaws.{scores_match}
use Rattle.scorer_answers.specs.Matching.{Matches}
use Rattle.query_answers.proofs.counts.count_by_scorer.Goals as goal

pub returns : goal.returns
returns g c schema analyze rows has passes =
    let sim = g.F.SegmentScorers.similarity c.args.forms.now in
    let q = query_of c.args.query.now in
    let es = g.F.Scorer.DocSet.entries c.in_ok-scorer.scorer in
    let matching = scores_match sim 1 q (g.F.SegmentScorers.segment c.args.forms.now) es c.in_ok-scorer.ensures in
    c.count.ensures.count schema analyze sim.weight 1 q rows has passes (subst (λ r. Matches sim.weight 1 q r es) c.requires.segment matching)
