use Rattle.query_trees.specs.Queries.{query_of}
use Rattle.query_answers.proofs.explanations.explain.Goals as goal

pub returns-clause-ok : goal.returns-clause-ok
returns-clause-ok g c schema analyze docs stands passes =
    c.explain.ensures.ok schema analyze (g.F.SegmentScorers.similarity c.args.forms.now) 1 (query_of c.args.query.now) docs (g.F.SegmentScorers.segment c.args.forms.now) stands passes c.in_ok-scorer.ensures

pub returns-clause-err : goal.returns-clause-err
returns-clause-err g c schema analyze docs stands passes =
    c.explain.ensures.err schema analyze (g.F.SegmentScorers.similarity c.args.forms.now) 1 (query_of c.args.query.now) docs (g.F.SegmentScorers.segment c.args.forms.now) stands passes c.in_ok-scorer.ensures
