use Rattle.query_trees.specs.Queries.{query_of}
use Rattle.query_answers.proofs.query_walks.for_each.Goals as goal

pub returns : goal.returns
returns g c schema analyze docs stands passes =
    c.for_each.ensures.pairs schema analyze (g.F.SegmentScorers.similarity c.args.forms.now) 1 (query_of c.args.query.now) docs (g.F.SegmentScorers.segment c.args.forms.now) stands passes c.in_ok-scorer.ensures
