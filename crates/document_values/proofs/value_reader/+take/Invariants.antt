use Rattle.std.proofs.Common.{◌*◌, ◌+◌, ◌≡◌}
use Rattle.layouts.specs.DocumentReading.{skip_many, take_held, take_member}
use Rattle.document_values.proofs.value_reader.+take.Given as goal

abbrev pub decreases-take : goal.decreases-take
decreases-take l = 2 * l.depth

abbrev pub decreases-skip_values : goal.decreases-skip_values
decreases-skip_values l = 2 * l.depth + 1

abbrev pub decreases-skip_members : goal.decreases-skip_members
decreases-skip_members l = 2 * l.depth + 1

-- what is left decides
abbrev pub invariant-skip_values-loop-left : goal.invariant-skip_values-loop-left
invariant-skip_values-loop-left l = skip_many (take_held l.tokens l.depth) l.left l.rest ≡ skip_many (take_held l.tokens l.depth) l.count l.fn.bytes

abbrev pub decreases-skip_values-loop-left : goal.decreases-skip_values-loop-left
decreases-skip_values-loop-left l = l.left

abbrev pub invariant-skip_members-loop-left : goal.invariant-skip_members-loop-left
invariant-skip_members-loop-left l = skip_many (take_member (take_held l.tokens l.depth)) l.left l.rest ≡ skip_many (take_member (take_held l.tokens l.depth)) l.count l.fn.bytes

abbrev pub decreases-skip_members-loop-left : goal.decreases-skip_members-loop-left
decreases-skip_members-loop-left l = l.left
