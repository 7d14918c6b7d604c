use Rattle.std.proofs.Common.{length, map, ◌-◌, ◌∷◌, ◌≡◌, ◌≤◌}
use Rattle.definitions.specs.Postings.{terminated}
use Rattle.definitions.specs.Sinks.{fed}
use Rattle.docsets.specs.Entries.{first}
use Rattle.docsets.specs.ScoredEntries.{pairs_of}
use Rattle.walks.proofs.MeetingWalks.{met}
use Rattle.walks.specs.Unions.{AreLater}
use Rattle.walks.proofs.meeting_walk.feed_window.Given as goal

-- what the sink has come to and what is left from the leader's document on make what is left from the target on
abbrev pub invariant-loop-doc : goal.invariant-loop-doc
invariant-loop-doc g l = record {
  at : l.doc ≡ first (g.S.DocSet.entries l.lead);
  later : AreLater l.doc (g.S.DocSet.entries l.fn.lead ∷ map g.S.DocSet.entries l.fn.others.items) (g.S.DocSet.entries l.lead ∷ map g.S.DocSet.entries l.others.items);
  far : l.fn.target ≤ l.doc;
  small : l.doc ≤ terminated;
  limit : l.threshold ≡ g.K.Sink.limit (g.K.Sink.state l.sink);
  fed : fed g.K.Sink.limit g.K.Sink.taken (g.K.Sink.state l.sink) (pairs_of (met (g.S.DocSet.entries l.fn.lead ∷ map g.S.DocSet.entries l.fn.others.items) l.doc)) ≡ fed g.K.Sink.limit g.K.Sink.taken (g.K.Sink.state l.fn.sink) (pairs_of (met (g.S.DocSet.entries l.fn.lead ∷ map g.S.DocSet.entries l.fn.others.items) l.fn.target));
  room : length (met (g.S.DocSet.entries l.fn.lead ∷ map g.S.DocSet.entries l.fn.others.items) l.doc) ≤ g.K.Sink.room l.sink;
}

abbrev pub decreases-loop-doc : goal.decreases-loop-doc
decreases-loop-doc g l = terminated - l.doc
