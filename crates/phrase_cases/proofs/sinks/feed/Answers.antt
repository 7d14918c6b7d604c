use Rattle.std.proofs.Common.{arith}
use Rattle.docsets.proofs.EntryLaws.{few}
use Rattle.phrase_cases.proofs.sinks.feed.Goals as goal

pub for_each_pruning_scorer-requires-clause-room : goal.for_each_pruning_scorer-requires-clause-room
for_each_pruning_scorer-requires-clause-room g c = (let most = few 0 (g.S.DocSet.entries c.args.scorer.now) (g.met.S.DocSet.rising c.args.scorer.now) in omega (arith, most))
