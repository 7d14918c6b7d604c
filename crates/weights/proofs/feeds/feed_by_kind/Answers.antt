use Rattle.std.proofs.Common.{arith}
use Rattle.walks.proofs.FedBelow.{fed_below, few_within}
use Rattle.weights.proofs.feeds.feed_by_kind.Goals as goal

pub feed-requires-clause-room : goal.feed-requires-clause-room
feed-requires-clause-room g c =
    let few = few_within 0 c.args.max_doc (g.F.Scorer.DocSet.entries c.args.scorer) (g.met.F.Scorer.DocSet.rising c.args.scorer) c.requires.within in
    let room = c.requires.room in
    omega (arith, few, room)

pub returns-clause-listed : goal.returns-clause-listed
returns-clause-listed g c =
    fed_below g.K.Sink.limit g.K.Sink.taken (g.K.Sink.state c.args.sink.now) (g.K.Sink.state c.feed.new.sink) c.args.max_doc (g.F.Scorer.DocSet.entries c.args.scorer) (g.met.F.Scorer.DocSet.rising c.args.scorer) c.requires.within c.feed.ensures
