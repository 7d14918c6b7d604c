use Rattle.std.proofs.Common.{[], ◌*◌, ◌≡◌, ◌≤◌, List, None, length, ℕ}
use Rattle.segment_postings.specs.TermEntries.{HasPositions}
use Rattle.postings_writer.specs.TermWriting.{AreWritten}
use Rattle.postings_tests.proofs.cursor_walks.write_with_positions.Given as goal

abbrev pub invariant-loop-index : goal.invariant-loop-index
invariant-loop-index l = ((docs counts : List ℕ) × (lists : List (List ℕ)) × AreWritten l.serializer docs counts × (length docs ≡ l.index) × HasPositions counts lists l.positions.1) × (l.serializer.next ≤ 3 * l.index) × (l.serializer.norms ≡ None) × (l.serializer.option ≡ l.fn.serializer.option) × (l.positions.0 ≡ [])
