use Rattle.std.proofs.Common.{false, get_or, ◌*◌, ◌/◌}
use Rattle.common.proofs.FirstBits.{NoneIn}
use Rattle.scorers.proofs.window_bits.WindowBits.first_from.Given as goal

-- no number of the words before this one is in
abbrev pub invariant-loop-i : goal.invariant-loop-i
invariant-loop-i l = NoneIn (λ k. get_or l.self k false) (64 * (l.el / 64)) (64 * l.i)
