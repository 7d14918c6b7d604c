use Rattle.std.proofs.Common.{length, map, ◌-◌, ◌∷◌, ◌≡◌, ◌≤◌}
use Rattle.definitions.specs.Postings.{terminated}
use Rattle.definitions.specs.Scoring.{max_score}
use Rattle.definitions.specs.Sinks.{fed}
use Rattle.docsets.specs.Entries.{from}
use Rattle.docsets.specs.Members.{greatest_sum}
use Rattle.docsets.specs.ScoredEntries.{pairs_of}
use Rattle.intersections.specs.Meetings.{meeting}
use Rattle.walks.proofs.meeting_walk.feed_led.Given as goal

-- what the sink has come to and what is left of the meeting make what the meeting makes
abbrev pub invariant-loop-target : goal.invariant-loop-target
invariant-loop-target g l = record {
  fits : greatest_sum (g.S.DocSet.entries l.lead ∷ map g.S.DocSet.entries l.others.items) ≤ max_score;
  small : l.target ≤ terminated;
  limit : l.threshold ≡ g.K.Sink.limit (g.K.Sink.state l.sink);
  fed : fed g.K.Sink.limit g.K.Sink.taken (g.K.Sink.state l.sink) (pairs_of (from l.target (meeting (g.S.DocSet.entries l.lead ∷ map g.S.DocSet.entries l.others.items)))) ≡ fed g.K.Sink.limit g.K.Sink.taken (g.K.Sink.state l.fn.sink) (pairs_of (meeting (g.S.DocSet.entries l.fn.lead ∷ map g.S.DocSet.entries l.fn.others.items)));
  room : length (from l.target (meeting (g.S.DocSet.entries l.lead ∷ map g.S.DocSet.entries l.others.items))) ≤ g.K.Sink.room l.sink;
}

abbrev pub decreases-loop-target : goal.decreases-loop-target
decreases-loop-target g l = terminated - l.target
