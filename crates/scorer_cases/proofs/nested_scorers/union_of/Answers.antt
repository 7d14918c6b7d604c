use Rattle.scorer_cases.proofs.NestedScores.{summed-bound}
use Rattle.scorer_cases.proofs.nested_scorers.union_of.Goals as goal

pub returns : goal.returns
returns g c = summed-bound g.S.DocSet.entries g.met.S.DocSet.rising 100000000000000 c.args.lists.items _ c.in_ok-build.ensures c.requires
