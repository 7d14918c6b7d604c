-- Laws of a list whose first elements are changed, and the others as they were.
use Rattle.std.proofs.Common.{[], ◌++◌, ◌<◌, ◌∷◌, ◌≡◌, ◌≤◌, List, ap, arith, drop, get_or, length, map, refl, set, suc, take, zero, ℕ}

pub changed-set : {X : Type 0} (f : X → X) (i : ℕ) (xs : List X) (d : X) → i < length xs → set (map f (take i xs) ++ drop i xs) i (f (get_or xs i d)) ≡ map f (take (suc i) xs) ++ drop (suc i) xs
changed-set f i [] d l = absurd (omega (arith, l))
changed-set f zero (x ∷ xs) d l = refl
changed-set f (suc i) (x ∷ xs) d l = ap (λ ys. f x ∷ ys) (changed-set f i xs d (omega (arith, l)))

pub changed-get : {X : Type 0} (f : X → X) (i : ℕ) (xs : List X) (d : X) → i < length xs → get_or (map f (take i xs) ++ drop i xs) i d ≡ get_or xs i d
changed-get f i [] d l = absurd (omega (arith, l))
changed-get f zero (x ∷ xs) d l = refl
changed-get f (suc i) (x ∷ xs) d l = changed-get f i xs d (omega (arith, l))

pub changed-length : {X : Type 0} (f : X → X) (i : ℕ) (xs : List X) → length (map f (take i xs) ++ drop i xs) ≡ length xs
changed-length f zero [] = refl
changed-length f (suc i) [] = refl
changed-length f zero (x ∷ xs) = refl
changed-length f (suc i) (x ∷ xs) = ap suc (changed-length f i xs)

pub changed-all : {X : Type 0} (f : X → X) (i : ℕ) (xs : List X) → length xs ≤ i → map f (take i xs) ++ drop i xs ≡ map f xs
changed-all f zero [] l = refl
changed-all f (suc i) [] l = refl
changed-all f zero (x ∷ xs) l = absurd (omega (arith, l))
changed-all f (suc i) (x ∷ xs) l = ap (λ ys. f x ∷ ys) (changed-all f i xs (omega (arith, l)))
