use Rattle.codes.proofs.CheckedPositions.{Checked}
use Rattle.codes.proofs.position_reader.checked_blocks.Given as goal

abbrev pub invariant-loop-width : goal.invariant-loop-width
invariant-loop-width l = Checked l.widths l.packed l.width-index l.at
