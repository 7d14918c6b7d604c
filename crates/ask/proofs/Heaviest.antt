-- The heaviest of some terms weighs something.
use Rattle.std.proofs.Common.{[], arith, max, ◌∷◌, ◌≡◌, ◌≤◌, Bool, List, ℕ}
use Rattle.ask.specs.Rarity.{Weights, heaviest, weight_in}

some : (ws : Weights) (ts : List (List ℕ × Bool)) → 1 ≤ heaviest ws ts
some ws [] = omega arith
some ws (t ∷ ts) = let rest : 1 ≤ heaviest ws ts = some ws ts in let more : 1 ≤ max (weight_in ws t.0) (heaviest ws ts) = omega (arith, rest) in more

-- it is 1 at least
pub one_at_least : (ws : Weights) (ts : List (List ℕ × Bool)) → max 1 (heaviest ws ts) ≡ heaviest ws ts
one_at_least ws ts = let least : 1 ≤ heaviest ws ts = some ws ts in omega (arith, least)
