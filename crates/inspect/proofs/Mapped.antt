-- What is made of what is there, and what is so up to a number.
use Rattle.std.proofs.Common.{None, Option, Some, ap, arith, option_map, subst, ◌+◌, ◌<◌, ◌≡◌, ◌≤◌, ℕ}
use Rattle.segment.proofs.BlockReadings.{below_or_end}

-- one map after the other
pub mapped : {X Y Z : Type 0} (f : X → Y) (g : Y → Z) (o : Option X) (y : Y) → option_map f o ≡ Some y → option_map (λ x. g (f x)) o ≡ Some (g y)
mapped f g None y h = ap (option_map g) h
mapped f g (Some x) y h = ap (option_map g) h

-- what is so of the numbers below one, and of that one
pub one_more : (P : ℕ → Type 0) (n : ℕ) → ((j : ℕ) → j < n → P j) → P n → (j : ℕ) → j < n + 1 → P j
one_more P n below last j l = below_or_end j n (P j) (below j) (λ (end : n ≤ j). let same : n ≡ j = omega (arith, l, end) in subst P same last)
