use Rattle.std.proofs.Common.{List, length, ◌≡◌, ◌≤◌, ℕ}
use Rattle.postings_writer.specs.TermWriting.{AreWritten}
use Rattle.scorer_cases.proofs.written_terms.write_docs.Given as goal

abbrev pub invariant-loop-index : goal.invariant-loop-index
invariant-loop-index l = ((ds counts : List ℕ) × AreWritten l.serializer ds counts × (length ds ≡ l.index)) × (l.serializer.next ≤ l.next) × (l.serializer.norms ≡ l.fn.serializer.norms) × (l.serializer.option ≡ l.fn.serializer.option)
