use Rattle.std.proofs.Common.{length, ◌+◌, ◌≡◌, ◌≤◌}
use Rattle.docsets.specs.Entries.{first}
use Rattle.docsets.proofs.doc_set.DocSet.count_including_deleted.Given as goal

-- those that were counted and those that remain are all
abbrev pub invariant-loop-doc : goal.invariant-loop-doc
invariant-loop-doc g l = record {
  at : l.doc ≡ first (g.Self.DocSet.entries l.self);
  all : l.count + length (g.Self.DocSet.entries l.self) ≡ length (g.Self.DocSet.entries l.fn.self);
  few : l.count + length (g.Self.DocSet.entries l.self) ≤ 2147483647;
}

abbrev pub decreases-loop-doc : goal.decreases-loop-doc
decreases-loop-doc g l = length (g.Self.DocSet.entries l.self)
