use Rattle.weights.proofs.calls.explain.Goals as goal

pub returns-clause-ok : goal.returns-clause-ok
returns-clause-ok g c schema analyze sim docs stands by passes =
    c.explain.ensures.ok schema analyze sim 1 (g.W.SegmentWeight.query c.args.weight.now) docs c.args.reader.now stands passes (c.in_ok-scorer.ensures sim by)

pub returns-clause-err : goal.returns-clause-err
returns-clause-err g c schema analyze sim docs stands by passes =
    c.explain.ensures.err schema analyze sim 1 (g.W.SegmentWeight.query c.args.weight.now) docs c.args.reader.now stands passes (c.in_ok-scorer.ensures sim by)
