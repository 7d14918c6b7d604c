-- What is read so far goes on with the bytes that are left.
use Rattle.std.proofs.Common.{drop, ◌++◌, ◌≡◌}
use Rattle.query_text.specs.TypedMarks.{signs_from, signs_of}
use Rattle.query_text.proofs.typed_marks.signs_of.Given as goal

abbrev pub invariant-loop-offset : goal.invariant-loop-offset
invariant-loop-offset l = l.signs.items ++ signs_from l.offset l.next (drop l.offset l.text) ≡ signs_of l.text
