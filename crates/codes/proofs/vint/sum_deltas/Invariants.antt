use Rattle.codes.proofs.SumsOfDeltas.{Sums}
use Rattle.codes.proofs.vint.sum_deltas.Given as goal

-- the deltas so far are documents below 2^32
abbrev pub invariant-loop-index : goal.invariant-loop-index
invariant-loop-index l = Sums l.next l.count l.fn.output l.index l.least l.output
