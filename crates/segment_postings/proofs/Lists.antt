-- What lists have, in front and behind.
use Rattle.std.proofs.Common.{[], List, ap, arith, drop, get_or, length, suc, sym, take, zero, ◌++◌, ◌+◌, ◌<◌, ◌∙◌, ◌∷◌, ◌≡◌, ◌≤◌, ℕ}
use Rattle.std.proofs.Math.Seq.{drop-append_seam, take-append_seam}
use Rattle.definitions.specs.Scoring.{greatest_of}
use Rattle.layouts.specs.Deltas.{IsAscendingFrom}

pub first_of : (n : ℕ) (xs ys : List ℕ) → length xs ≡ n → take n (xs ++ ys) ≡ xs
first_of n xs ys long = ap (λ k. take k (xs ++ ys)) (sym long) ∙ take-append_seam xs ys

pub behind : (n : ℕ) (xs ys : List ℕ) → length xs ≡ n → drop n (xs ++ ys) ≡ ys
behind n xs ys long = ap (λ k. drop k (xs ++ ys)) (sym long) ∙ drop-append_seam xs ys

pub greatest_each : (xs : List ℕ) (i : ℕ) → get_or xs i 0 ≤ greatest_of xs
greatest_each [] i = omega arith
greatest_each (x ∷ xs) zero = omega arith
greatest_each (x ∷ xs) (suc i) = (let ih = greatest_each xs i in omega (arith, ih))

pub ascending_take : (n next : ℕ) (docs : List ℕ) → IsAscendingFrom next docs → IsAscendingFrom next (take n docs)
ascending_take zero next docs a = tt
ascending_take (suc n) next [] a = tt
ascending_take (suc n) next (d ∷ ds) a = (a.0, ascending_take n (d + 1) ds a.1)

pub ascending_drop : (n next : ℕ) (docs : List ℕ) → IsAscendingFrom next docs → n < length docs → IsAscendingFrom (get_or docs n 0 + 1) (drop (suc n) docs)
ascending_drop n next [] a l = absurd (omega (arith, l))
ascending_drop zero next (d ∷ ds) a l = a.1
ascending_drop (suc n) next (d ∷ ds) a l = ascending_drop n (d + 1) ds a.1 (omega (arith, l))
