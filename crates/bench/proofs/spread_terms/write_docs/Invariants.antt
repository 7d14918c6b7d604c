use Rattle.std.proofs.Common.{◌*◌, ◌≡◌, ◌≤◌, List, length, ℕ}
use Rattle.postings_writer.specs.TermWriting.{AreWritten}
use Rattle.bench.proofs.spread_terms.write_docs.Given as goal

abbrev pub invariant-loop-index : goal.invariant-loop-index
invariant-loop-index l = ((docs counts : List ℕ) × AreWritten l.serializer docs counts × (length docs ≡ l.index)) × (l.serializer.next ≤ l.next) × (l.serializer.norms ≡ l.fn.serializer.norms) × (l.serializer.option ≡ l.fn.serializer.option) × (l.next ≤ 99 * l.index)
