-- What is left is what stands behind those that were let go.
use Rattle.std.proofs.Common.{drop, ◌≡◌}
use Rattle.index_file.proofs.part_reader.take_at.Given as goal

abbrev pub invariant-loop-i : goal.invariant-loop-i
invariant-loop-i l = l.members.items ≡ drop l._i l.fn.members.items
