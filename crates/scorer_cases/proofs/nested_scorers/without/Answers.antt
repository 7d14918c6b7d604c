use Rattle.std.proofs.Common.{ap, arith, map}
use Rattle.intersections.specs.Differences.{has, unscored}
use Rattle.docsets.specs.ScoredEntries.{greatest_score}
use Rattle.docsets.specs.Members.{at_least}
use Rattle.scorer_cases.proofs.NestedScores.{greatest-without}
use Rattle.scorer_cases.proofs.nested_scorers.without.Goals as goal

pub returns : goal.returns
returns g c =
    let es = g.S.DocSet.entries c.args.underlying in
    let excluded = has (at_least 1 unscored (map g.D.DocSet.entries c.new.result.docsets.items)) in
    let same = ap greatest_score c.new-2.ensures in
    let less = greatest-without excluded es in
    let small = c.requires in
    omega (arith, same, less, small)
