use Rattle.std.proofs.Common.{drop, length, map, ◌-◌, ◌<◌, ◌≡◌, ℕ}
use Rattle.std.specs.Prelude.{pos, ◌≤ℤ◌}
use Rattle.std.specs.List.{AllByRecursion}
use Rattle.docsets.specs.Entries.{first, from}
use Rattle.definitions.specs.Postings.{terminated}
use Rattle.intersections.specs.Meetings.{meeting}
use Rattle.phrases.specs.Finders.{HasRoom}
use Rattle.phrases.specs.Places.{places_of}
use Rattle.phrases.proofs.phrase_documents.settle_above.Given as goal

-- the documents that are passed have no places, or earn low scores
abbrev pub invariant-loop-doc : goal.invariant-loop-doc
invariant-loop-doc g l = record {
  at : l.doc ≡ first (meeting (map g.S.DocSet.entries l.terms.docsets.items));
  left : meeting (map g.S.DocSet.entries l.terms.docsets.items) ≡ from l.doc (drop 1 (meeting (map g.S.DocSet.entries l.fn.terms.docsets.items)));
  slop : l.finder.slop ≡ l.fn.finder.slop;
  room : (n : ℕ) → HasRoom l.fn.finder n → HasRoom l.finder n;
  low : AllByRecursion (λ e. e.doc < l.doc → 0 < length (places_of l.fn.finder.slop e.positions) → pos (g.C.ColumnThreshold.score l.threshold e.doc e.positions) ≤ℤ g.C.ColumnThreshold.limit l.threshold) (drop 1 (meeting (map g.S.DocSet.entries l.fn.terms.docsets.items)));
}

abbrev pub decreases-loop-doc : goal.decreases-loop-doc
decreases-loop-doc g l = terminated - l.doc
