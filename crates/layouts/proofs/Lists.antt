-- Laws of lists.
use Rattle.std.proofs.Common.{[], ◌∷◌, List, ℕ, ◌+◌, ◌*◌, ◌<◌, ◌^◌, ◌≡◌, Bool, arith, false, length, pow-suc, suc, true}
use Rattle.std.proofs.Props.{props}
use Rattle.layouts.specs.Deltas.{IsAscendingFrom}
use Rattle.std.proofs.Math.Nat.{pow-zero}
use Rattle.layouts.specs.AliveSets.{word_of}

-- there is one way to ascend
pub IsAscendingFrom-prop : (n : ℕ) (xs : List ℕ) → IsProp (IsAscendingFrom n xs)
IsAscendingFrom-prop n [] = hlevel props
IsAscendingFrom-prop n (x ∷ xs) = (let rest : IsProp (IsAscendingFrom (x + 1) xs) = IsAscendingFrom-prop (x + 1) xs in hlevel (props, rest))

pub word_below : (flags : List Bool) → word_of flags < 2 ^ length flags
word_below [] = (let one : 2 ^ 0 ≡ 1 = pow-zero 2 in omega arith)
word_below (flag ∷ flags) = bit flag (word_below flags) (pow-suc 2 (length flags))
  where
    bit : (b : Bool) → word_of flags < 2 ^ length flags → 2 ^ suc (length flags) ≡ 2 ^ length flags * 2 → word_of (b ∷ flags) < 2 ^ suc (length flags)
    bit true rest next = omega arith
    bit false rest next = omega arith
