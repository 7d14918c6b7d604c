use Rattle.std.proofs.Common.{length, ◌≡◌, ◌≤◌}
use Rattle.definitions.specs.Sinks.{fed}
use Rattle.docsets.specs.Entries.{first, from}
use Rattle.docsets.specs.ScoredEntries.{pairs_of}
use Rattle.walks.proofs.sink.feed_up_to.Given as goal

-- what the sink has come to and what is left make what was there
abbrev pub invariant-loop-doc : goal.invariant-loop-doc
invariant-loop-doc g l = record {
  at : l.doc ≡ first (g.S.DocSet.entries l.scorer);
  limit : l.threshold ≡ g.K.Sink.limit (g.K.Sink.state l.sink);
  left : length (g.S.DocSet.entries l.scorer) ≤ g.K.Sink.room l.sink;
  fed : fed g.K.Sink.limit g.K.Sink.taken (g.K.Sink.state l.sink) (pairs_of (g.S.DocSet.entries l.scorer)) ≡ fed g.K.Sink.limit g.K.Sink.taken (g.K.Sink.state l.fn.sink) (pairs_of (from l.fn.target (g.S.DocSet.entries l.fn.scorer)));
}

abbrev pub decreases-loop-doc : goal.decreases-loop-doc
decreases-loop-doc g l = length (g.S.DocSet.entries l.scorer)
