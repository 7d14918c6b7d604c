use Rattle.std.proofs.Common.{◌*◌, ◌≡◌, length}
use Rattle.postings_tests.proofs.cursor_walks.every_second.Given as goal

abbrev pub invariant-loop-index : goal.invariant-loop-index
invariant-loop-index l = length l.alive ≡ 3 * l.fn.num_docs
