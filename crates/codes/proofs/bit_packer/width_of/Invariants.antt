-- What all the numbers so far have together.
use Rattle.codes.proofs.LeastWidths.{Joins}
use Rattle.codes.proofs.bit_packer.width_of.Given as goal

abbrev pub invariant-loop-n : goal.invariant-loop-n
invariant-loop-n l = Joins l.numbers l.n-index l.all
