use Rattle.std.proofs.Common.{map, ◌-◌, ◌≡◌, ℕ}
use Rattle.docsets.specs.Entries.{IsRest, first}
use Rattle.definitions.specs.Postings.{terminated}
use Rattle.intersections.specs.Meetings.{meeting}
use Rattle.phrases.specs.Finders.{HasRoom}
use Rattle.phrases.specs.PhraseEntries.{phrased}
use Rattle.phrases.proofs.phrase_documents.settle.Given as goal

-- no document is passed where the phrase stands
abbrev pub invariant-loop-doc : goal.invariant-loop-doc
invariant-loop-doc g l = record {
  at : l.doc ≡ first (meeting (map g.S.DocSet.entries l.terms.docsets.items));
  same : (score : ℕ → ℕ → ℕ) → phrased score l.fn.finder.slop (meeting (map g.S.DocSet.entries l.terms.docsets.items)) ≡ phrased score l.fn.finder.slop (meeting (map g.S.DocSet.entries l.fn.terms.docsets.items));
  rest : IsRest (meeting (map g.S.DocSet.entries l.terms.docsets.items)) (meeting (map g.S.DocSet.entries l.fn.terms.docsets.items));
  slop : l.finder.slop ≡ l.fn.finder.slop;
  room : (n : ℕ) → HasRoom l.fn.finder n → HasRoom l.finder n;
}

abbrev pub decreases-loop-doc : goal.decreases-loop-doc
decreases-loop-doc g l = terminated - l.doc
