use Rattle.std.proofs.Common.{false, get_or, take, ◌≡◌, ℕ}
use Rattle.phrases.specs.Places.{has}
use Rattle.phrases.proofs.position_marks.mark.Given as goal

-- those so far are marked
abbrev pub invariant-loop-i : goal.invariant-loop-i
invariant-loop-i l = (p : ℕ) → get_or l.marks p false ≡ has (take l.i l.positions) p
