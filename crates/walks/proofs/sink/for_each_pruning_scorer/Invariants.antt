use Rattle.std.proofs.Common.{length, ◌-◌, ◌≡◌, ◌≤◌}
use Rattle.definitions.specs.Postings.{terminated}
use Rattle.definitions.specs.Sinks.{fed}
use Rattle.docsets.specs.Entries.{from}
use Rattle.docsets.specs.ScoredEntries.{pairs_of}
use Rattle.walks.proofs.sink.for_each_pruning_scorer.Given as goal

-- what the sink has come to and what is left to feed from the target on make what all make
abbrev pub invariant-loop-target : goal.invariant-loop-target
invariant-loop-target g l = record {
  limit : l.threshold ≡ g.K.Sink.limit (g.K.Sink.state l.sink);
  left : length (from l.target (g.S.DocSet.entries l.scorer)) ≤ g.K.Sink.room l.sink;
  small : l.target ≤ terminated;
  fed : fed g.K.Sink.limit g.K.Sink.taken (g.K.Sink.state l.sink) (pairs_of (from l.target (g.S.DocSet.entries l.scorer))) ≡ fed g.K.Sink.limit g.K.Sink.taken (g.K.Sink.state l.fn.sink) (pairs_of (g.S.DocSet.entries l.fn.scorer));
}

abbrev pub decreases-loop-target : goal.decreases-loop-target
decreases-loop-target g l = terminated - l.target
