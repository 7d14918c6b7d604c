use Rattle.std.proofs.Common.{◌≡◌, ◌≤◌, IfSome, length}
use Rattle.postings_tests.proofs.written_postings.write_docs.Given as goal

abbrev pub invariant-loop-count : goal.invariant-loop-count
invariant-loop-count l = (l.serializer.next ≤ l.doc) × IfSome l.serializer.norms (λ ids. length ids ≡ l.fn.num_docs)
