use Rattle.scorer_answers.proofs.AnswerLaws.{scores_match}
use Rattle.weights.proofs.calls.for_each_no_score.Goals as goal

pub returns-clause-fed : goal.returns-clause-fed
returns-clause-fed g c schema analyze sim docs stands by passes =
    let q = g.W.SegmentWeight.query c.args.weight.now in
    c.for_each_no_score.ensures.fed schema analyze sim.weight 1 q docs c.args.reader.now stands passes (scores_match sim 1 q c.args.reader.now _ (c.in_ok-scorer.ensures sim by))
