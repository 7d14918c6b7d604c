use Rattle.std.proofs.Common.{[], count_by, false, length, slice_index_or, ◌+◌, ◌≡◌, ◌≤◌}
use Rattle.docsets.specs.Entries.{first, from}
use Rattle.docsets.proofs.doc_set.DocSet.count.Given as goal

-- those that were counted and those that remain are all
abbrev pub invariant-loop-doc : goal.invariant-loop-doc
invariant-loop-doc g l = record {
  at : l.doc ≡ first (g.Self.DocSet.entries l.self);
  all : l.count + count_by (λ e. slice_index_or l.alive e.doc false) (g.Self.DocSet.entries l.self) ≡ count_by (λ e. slice_index_or l.alive e.doc false) (g.Self.DocSet.entries l.fn.self);
  few : l.count + length (g.Self.DocSet.entries l.self) ≤ 2147483647;
  below : from (length l.alive) (g.Self.DocSet.entries l.self) ≡ [];
}

abbrev pub decreases-loop-doc : goal.decreases-loop-doc
decreases-loop-doc g l = length (g.Self.DocSet.entries l.self)
