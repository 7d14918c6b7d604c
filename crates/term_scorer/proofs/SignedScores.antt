-- Scores as signed numbers of 64 bits.
use Rattle.std.proofs.Common.{arith, of_z, pos, to_z, ◌≡◌, ◌≤◌, ℕ}
use Rattle.std.proofs.lemmas.Int.{ints, to_z-of_z}
use mir.Syntax.{w64}
use mir.Val.{SFits}
use Rattle.definitions.specs.Scoring.{max_score}

pub score-signed : (n : ℕ) → n ≤ max_score → SFits w64 (pos n)
score-signed n small = omega (arith, ints, small)

pub score-kept : (n : ℕ) → n ≤ max_score → to_z w64 (of_z w64 (pos n)) ≡ pos n
score-kept n small = to_z-of_z w64 (pos n) (score-signed n small)
