use Rattle.weights.proofs.calls.for_each.Goals as goal

pub returns : goal.returns
returns g c schema analyze sim docs stands by passes =
    c.for_each.ensures.pairs schema analyze sim 1 (g.W.SegmentWeight.query c.args.weight.now) docs c.args.reader.now stands passes (c.in_ok-scorer.ensures sim by)
