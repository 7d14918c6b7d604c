use Rattle.std.proofs.Common.{◌≡◌}
use Rattle.layouts.specs.DocumentReading.{skip_many, take_pair, take_value}
use Rattle.document_values.proofs.value_reader.skip_pairs.Given as goal

-- what is left decides
abbrev pub invariant-loop-left : goal.invariant-loop-left
invariant-loop-left l = skip_many (take_pair take_value) l.left l.rest ≡ skip_many (take_pair take_value) l.count l.fn.bytes

abbrev pub decreases-loop-left : goal.decreases-loop-left
decreases-loop-left l = l.left
