-- The greatest score of documents that each have score 1.
use Rattle.std.proofs.Common.{arith, suc, zero, ◌*◌, ◌≤◌, ℕ}

pub boosted-fits : (boost greatest most : ℕ) → greatest ≤ 1 → boost ≤ most → boost * greatest ≤ most
boosted-fits boost zero most one small = omega arith
boosted-fits boost (suc zero) most one small = omega (arith, small)
boosted-fits boost (suc (suc n)) most one small = absurd (omega (arith, one))
