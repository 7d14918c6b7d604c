use Rattle.std.proofs.Common.{ap, arith, ◌∙◌}
use Rattle.definitions.specs.Sinks as sinks
use Rattle.walks.proofs.FedBelow.{fed_below}
use Rattle.query_trees.specs.Queries.{query_of}
use Rattle.scorer_answers.proofs.AnswerLaws.{few_documents}
use Rattle.segment_reader.specs.SegmentReaders.{max_doc_of}
use Rattle.query_answers.proofs.query_walks.for_each_pruning.Goals as goal

pub feed-requires-clause-room : goal.feed-requires-clause-room
feed-requires-clause-room g c =
    let scorer = c.in_ok-scorer.scorer in
    let few = few_documents (g.F.SegmentScorers.similarity c.args.forms.now) 1 (query_of c.args.query.now) (g.F.SegmentScorers.segment c.args.forms.now) (g.F.Scorer.DocSet.entries scorer) (g.met.F.Scorer.DocSet.rising scorer) c.in_ok-scorer.ensures in
    omega (arith, few, c.requires.room)

pub returns-clause-listed : goal.returns-clause-listed
returns-clause-listed g c =
    let scorer = c.in_ok-scorer.scorer in
    let es = g.F.Scorer.DocSet.entries scorer in
    let scores = c.in_ok-scorer.ensures in
    fed_below g.K.Sink.limit g.K.Sink.taken (g.K.Sink.state c.args.sink.now) (g.K.Sink.state c.feed.new.sink) (max_doc_of (g.F.SegmentScorers.segment c.args.forms.now)) es (g.met.F.Scorer.DocSet.rising scorer) scores.within c.feed.ensures

pub returns-clause-fed : goal.returns-clause-fed
returns-clause-fed g c schema analyze docs stands passes = c.feed.ensures ∙ ap (sinks.fed g.K.Sink.limit g.K.Sink.taken (g.K.Sink.state c.args.sink.now)) (c.in_ok-scorer.ensures.answers_are schema analyze docs stands passes)
