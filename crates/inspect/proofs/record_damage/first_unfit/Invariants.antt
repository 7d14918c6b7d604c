-- The new segments so far are some.
use Rattle.std.proofs.Common.{map, take}
use Rattle.std.specs.List.{AllByRecursion}
use Rattle.index_file.specs.Parts.{part_of}
use Rattle.inspect.specs.Reasons.{IsNewSegment}
use Rattle.inspect.proofs.record_damage.first_unfit.Given as goal

abbrev pub invariant-loop-number : goal.invariant-loop-number
invariant-loop-number l = AllByRecursion (IsNewSegment l.schema) (take l.number (map part_of l.parts))
