-- What was read and what is left make the whole.
use Rattle.std.proofs.Common.{◌-◌, map}
use Rattle.common.proofs.Taking.{Runs}
use Rattle.index_file.specs.Parts.{part_of, take_part}
use Rattle.index_file.proofs.parts_reader.take_parts.Given as goal

abbrev pub invariant-loop-i : goal.invariant-loop-i
invariant-loop-i l = Runs take_part l.num_parts l.bytes (map part_of l.parts.items) (l.num_parts - l._i) l.rest
