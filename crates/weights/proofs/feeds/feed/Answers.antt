use Rattle.std.proofs.Common.{arith}
use Rattle.walks.proofs.FedBelow.{fed_below, few_within}
use Rattle.weights.proofs.feeds.feed.Goals as goal

pub for_each_pruning_scorer-requires-clause-room : goal.for_each_pruning_scorer-requires-clause-room
for_each_pruning_scorer-requires-clause-room g c =
    let few = few_within 0 c.args.max_doc (g.S.DocSet.entries c.args.scorer) (g.met.S.DocSet.rising c.args.scorer) c.requires.within in
    let room = c.requires.room in
    omega (arith, few, room)

pub returns-clause-listed : goal.returns-clause-listed
returns-clause-listed g c =
    fed_below g.K.Sink.limit g.K.Sink.taken (g.K.Sink.state c.args.sink.now) (g.K.Sink.state c.for_each_pruning_scorer.new.sink) c.args.max_doc (g.S.DocSet.entries c.args.scorer) (g.met.S.DocSet.rising c.args.scorer) c.requires.within c.for_each_pruning_scorer.ensures.state
