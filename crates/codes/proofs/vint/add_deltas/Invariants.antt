use Rattle.codes.proofs.SumsOfDeltas.{Sums}
use Rattle.codes.proofs.vint.add_deltas.Given as goal

-- the deltas so far are documents below 2^32
abbrev pub invariant-loop-place : goal.invariant-loop-place
invariant-loop-place l = Sums l.next l.count l.fn.output l.place l.least l.output
