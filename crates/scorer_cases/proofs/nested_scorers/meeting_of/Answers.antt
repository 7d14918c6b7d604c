use Rattle.std.proofs.Common.{length, map}
use Rattle.intersections.specs.Meetings.{meeting}
use Rattle.scorer_cases.proofs.NestedScores.{joined-bound}
use Rattle.scorer_cases.proofs.nested_scorers.meeting_of.Goals as goal

pub returns : goal.returns
returns g c =
    let items = c.args.lists.items in
    joined-bound g.S.DocSet.entries g.met.S.DocSet.rising (length (map g.S.DocSet.entries items)) 100000000000000 items (meeting (map g.S.DocSet.entries c.new.result.docsets.items)) c.new.ensures c.requires
