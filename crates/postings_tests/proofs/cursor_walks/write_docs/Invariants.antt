use Rattle.std.proofs.Common.{◌*◌, ◌<◌, ◌≡◌, ◌≤◌, List, None, length, ℕ}
use Rattle.std.specs.List.{AllByRecursion}
use Rattle.postings_writer.specs.TermWriting.{AreWritten}
use Rattle.postings_tests.proofs.cursor_walks.write_docs.Given as goal

abbrev pub invariant-loop-index : goal.invariant-loop-index
invariant-loop-index l = ((docs counts : List ℕ) × AreWritten l.serializer docs counts × (length docs ≡ l.index) × AllByRecursion (λ d. d < 3 * l.index) docs) × (l.serializer.next ≤ 3 * l.index) × (l.serializer.norms ≡ None) × (l.serializer.option ≡ l.fn.serializer.option)
