use Rattle.std.proofs.Common.{ap, subst, ◌∙◌}
use Rattle.definitions.specs.Sinks as sinks
use Rattle.walks.specs.Feeding.{IsFedBelow}
use Rattle.weights.proofs.WeighedLaws.{weighed_within}
use Rattle.weights.proofs.calls.for_each_pruning.Goals as goal

pub feed-requires-clause-within : goal.feed-requires-clause-within
feed-requires-clause-within g c = weighed_within (g.W.SegmentWeight.scores_by c.args.weight.now) 1 (g.W.SegmentWeight.query c.args.weight.now) c.args.reader.now _ c.max_doc.result c.max_doc.ensures.value c.requires.accepted c.in_ok-scorer.ensures

pub returns-clause-fed : goal.returns-clause-fed
returns-clause-fed g c schema analyze sim docs stands by passes = c.feed.ensures.fed ∙ ap (sinks.fed g.K.Sink.limit g.K.Sink.taken (g.K.Sink.state c.args.sink.now)) ((c.in_ok-scorer.ensures sim by).answers_are schema analyze docs stands passes)

pub returns-clause-listed : goal.returns-clause-listed
returns-clause-listed g c = subst (λ n. IsFedBelow g.K.Sink.limit g.K.Sink.taken (g.K.Sink.state c.args.sink.now) n (g.K.Sink.state c.feed.new.sink)) c.max_doc.ensures.value c.feed.ensures.listed
