use Rattle.query_trees.specs.Queries.{query_of}
use Rattle.scorer_answers.proofs.AnswerLaws.{scores_match}
use Rattle.query_answers.proofs.query_walks.for_each_no_score.Goals as goal

pub returns-clause-fed : goal.returns-clause-fed
returns-clause-fed g c schema analyze docs stands passes =
    let sim = g.F.SegmentScorers.similarity c.args.forms.now in
    let q = query_of c.args.query.now in
    let r = g.F.SegmentScorers.segment c.args.forms.now in
    let es = g.F.Scorer.DocSet.entries c.in_ok-scorer.scorer in
    c.for_each_no_score.ensures.fed schema analyze sim.weight 1 q docs r stands passes (scores_match sim 1 q r es c.in_ok-scorer.ensures)
