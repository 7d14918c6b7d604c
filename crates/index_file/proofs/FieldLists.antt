-- Lists of fields with their numbers.
use Rattle.std.proofs.Common.{[], ap, map, refl, ◌+◌, ◌∷◌, ◌≡◌, List, ℕ}
use Rattle.std.specs.List.{enumerate_from}

-- without their numbers the elements are those of the list
pub numbered : {X : Type 0} (n : ℕ) (xs : List X) → map (λ p. p.1) (enumerate_from n xs) ≡ xs
numbered n [] = refl
numbered n (x ∷ xs) = ap (λ ys. x ∷ ys) (numbered (n + 1) xs)
