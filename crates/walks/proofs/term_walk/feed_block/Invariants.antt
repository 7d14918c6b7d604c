use Rattle.std.proofs.Common.{length, ◌≡◌, ◌≤◌}
use Rattle.definitions.specs.Sinks.{fed}
use Rattle.docsets.specs.Entries.{first, from}
use Rattle.docsets.specs.ScoredEntries.{pairs_of}
use Rattle.walks.specs.BlocksLeft.{StandsInBlock, up_to}
use Rattle.term_scorer.specs.ScoredTerms.{scored_left}
use Rattle.walks.proofs.term_walk.feed_block.Given as goal

-- what the sink has come to and what is left of the block make what the block makes
abbrev pub invariant-loop-doc : goal.invariant-loop-doc
invariant-loop-doc g l = record {
  at : l.doc ≡ first (scored_left l.scorer);
  limit : l.threshold ≡ g.K.Sink.limit (g.K.Sink.state l.sink);
  room : length (scored_left l.scorer) ≤ g.K.Sink.room l.sink;
  left : from l.fn.until (scored_left l.scorer) ≡ from l.fn.until (scored_left l.fn.scorer);
  fed : fed g.K.Sink.limit g.K.Sink.taken (g.K.Sink.state l.sink) (pairs_of (up_to l.fn.until (scored_left l.scorer))) ≡ fed g.K.Sink.limit g.K.Sink.taken (g.K.Sink.state l.fn.sink) (pairs_of (up_to l.fn.until (from l.fn.target (scored_left l.fn.scorer))));
  block : StandsInBlock l.fn.target l.fn.scorer l.scorer;
}

abbrev pub decreases-loop-doc : goal.decreases-loop-doc
decreases-loop-doc g l = length (scored_left l.scorer)
