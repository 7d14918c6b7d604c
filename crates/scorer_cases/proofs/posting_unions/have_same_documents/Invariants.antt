use Rattle.std.proofs.Common.{length, ◌≡◌}
use Rattle.docsets.specs.Entries.{first}
use Rattle.scorers.specs.Documents.{documents}
use Rattle.scorer_cases.proofs.posting_unions.have_same_documents.Given as goal

-- where what remains has the same documents, all has
abbrev pub invariant-loop-doc : goal.invariant-loop-doc
invariant-loop-doc g l = record {
  at : l.doc ≡ first (g.A.DocSet.entries l.first);
  back : documents (g.A.DocSet.entries l.first) ≡ documents (g.B.DocSet.entries l.second) → documents (g.A.DocSet.entries l.fn.first) ≡ documents (g.B.DocSet.entries l.fn.second);
}

abbrev pub decreases-loop-doc : goal.decreases-loop-doc
decreases-loop-doc g l = length (g.A.DocSet.entries l.first)
