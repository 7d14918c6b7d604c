use Rattle.std.proofs.Common.{drop, false, get_or, ◌≡◌, ℕ}
use Rattle.phrases.specs.Places.{has}
use Rattle.phrases.proofs.position_marks.clear.Given as goal

-- no other than those left is marked
abbrev pub invariant-loop-i : goal.invariant-loop-i
invariant-loop-i l = (p : ℕ) → has (drop l.i l.positions) p ≡ false → get_or l.marks p false ≡ false
