use Rattle.std.proofs.Common.{drop, length, map, min, pos, ◌-◌, ◌<◌, ◌≡◌, ◌≤◌, ◌≤ℤ◌}
use Rattle.definitions.specs.Postings.{terminated}
use Rattle.definitions.specs.Sinks.{fed}
use Rattle.docsets.specs.Members.{least}
use Rattle.docsets.specs.ScoredEntries.{pairs_of}
use Rattle.walks.proofs.UnionWalks.{left}
use Rattle.walks.specs.Unions.{AreLater}
use Rattle.walks.proofs.union_walk.feed_window.Given as goal

-- what the sink has come to and what is left from the current document on, or from the end of the window, make what is
-- left from the target on
abbrev pub invariant-loop-doc : goal.invariant-loop-doc
invariant-loop-doc g l = record {
  at : l.doc ≡ least (drop l.fn.free.count (map g.S.DocSet.entries l.scorers.items));
  later : AreLater (min l.doc l.fn.free.until) (map g.S.DocSet.entries l.fn.scorers.items) (map g.S.DocSet.entries l.scorers.items);
  far : l.fn.target ≤ l.doc;
  small : l.doc ≤ terminated;
  limit : l.threshold ≡ g.K.Sink.limit (g.K.Sink.state l.sink);
  low : 0 < l.fn.free.count → pos l.fn.free.bound ≤ℤ l.threshold;
  fed : fed g.K.Sink.limit g.K.Sink.taken (g.K.Sink.state l.sink) (pairs_of (left (map g.S.DocSet.entries l.fn.scorers.items) (min l.doc l.fn.free.until))) ≡ fed g.K.Sink.limit g.K.Sink.taken (g.K.Sink.state l.fn.sink) (pairs_of (left (map g.S.DocSet.entries l.fn.scorers.items) l.fn.target));
  room : length (left (map g.S.DocSet.entries l.fn.scorers.items) (min l.doc l.fn.free.until)) ≤ g.K.Sink.room l.sink;
}

abbrev pub decreases-loop-doc : goal.decreases-loop-doc
decreases-loop-doc g l = terminated - l.doc
