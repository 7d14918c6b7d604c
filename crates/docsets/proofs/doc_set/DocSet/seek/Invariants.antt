use Rattle.std.proofs.Common.{length, ◌≡◌}
use Rattle.docsets.specs.Entries.{first, from}
use Rattle.docsets.proofs.doc_set.DocSet.seek.Given as goal

-- what remains from the target on stays
abbrev pub invariant-loop-doc : goal.invariant-loop-doc
invariant-loop-doc g l = record {
  at : l.doc ≡ first (g.Self.DocSet.entries l.self);
  rest : from l.target (g.Self.DocSet.entries l.self) ≡ from l.target (g.Self.DocSet.entries l.fn.self);
}

abbrev pub decreases-loop-doc : goal.decreases-loop-doc
decreases-loop-doc g l = length (g.Self.DocSet.entries l.self)
