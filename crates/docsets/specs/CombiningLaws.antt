-- Laws of combined scores.
use Rattle.std.proofs.Common.{[], ◌*◌, ◌+◌, ◌-◌, ◌/◌, ◌∙◌, ◌∷◌, ◌≡◌, ◌≤◌, All, IsPermutation, List, ap, arith, max, suc, sum, zero, ℕ}
use Rattle.std.proofs.Math.Nat.{mul-le-mul_left}
use Rattle.std.proofs.lemmas.List.Sorted.{All-permutation, IsPermutation-sym, sum_by-IsPermutation}
use Rattle.std.proofs.lemmas.List.Sums.{sum_by-cons}
use Rattle.definitions.specs.Scoring.{greatest_of, max_score}
use Rattle.definitions.proofs.Bounds.{greatest_below_sum}
use Rattle.docsets.specs.Combining.{tie_after, with_tie}

pub sum-cons : (x : ℕ) (xs : List ℕ) → sum (x ∷ xs) ≡ x + sum xs
sum-cons x xs = sum_by-cons (λ n. n) x xs

-- ---- the order doesn't matter
pub sum-permuted : (xs ys : List ℕ) → IsPermutation xs ys → sum ys ≡ sum xs
sum-permuted xs ys is = sum_by-IsPermutation (λ n. n) xs ys is

pub further-permuted : (n : ℕ) (xs ys : List ℕ) → IsPermutation xs ys → n + sum ys ≡ n + sum xs
further-permuted n xs ys is = ap (λ s. n + s) (sum-permuted xs ys is)

-- no number is above the greatest
each-below : (xs : List ℕ) → All (λ x. x ≤ greatest_of xs) xs
each-below [] k d l = absurd (omega (arith, l))
each-below (x ∷ xs) zero d l = omega arith
each-below (x ∷ xs) (suc k) d l = (let le = each-below xs k d (omega (arith, l)) in omega (arith, le))

-- and the greatest isn't above what no number is above
least-above : (m : ℕ) (xs : List ℕ) → All (λ x. x ≤ m) xs → greatest_of xs ≤ m
least-above m [] all = omega arith
least-above m (x ∷ xs) all =
    let first : x ≤ m = all 0 0 (omega arith) in
    let rest = least-above m xs (λ k d l. all (suc k) d (omega (arith, l))) in
    omega (arith, first, rest)

permuted-below : (xs ys : List ℕ) → IsPermutation xs ys → greatest_of ys ≤ greatest_of xs
permuted-below xs ys is = least-above (greatest_of xs) ys (All-permutation (λ x. x ≤ greatest_of xs) xs ys is (each-below xs))

pub greatest-permuted : (xs ys : List ℕ) → IsPermutation xs ys → greatest_of ys ≡ greatest_of xs
greatest-permuted xs ys is =
    let up = permuted-below xs ys is in
    let down = permuted-below ys xs (IsPermutation-sym xs ys is) in
    omega (arith, up, down)

pub tie-permuted : (tie greatest total : ℕ) (xs ys : List ℕ) → IsPermutation xs ys → tie_after tie greatest total ys ≡ tie_after tie greatest total xs
tie-permuted tie greatest total xs ys is = ap (λ g. with_tie tie (max greatest g) (total + sum ys)) (greatest-permuted xs ys is) ∙ ap (λ s. with_tie tie (max greatest (greatest_of xs)) (total + s)) (sum-permuted xs ys is)

-- ---- no score is above the greatest where the sum isn't

-- a share of the others isn't above them
share : (tie n : ℕ) → tie ≤ 1000 → n * tie / 1000 ≤ n
share tie n small = (let le = mul-le-mul_left n small in omega (arith, le))

pub tie-bounded : (tie greatest total : ℕ) (xs : List ℕ) → tie ≤ 1000 → greatest ≤ total → total + sum xs ≤ max_score → tie_after tie greatest total xs ≤ max_score
tie-bounded tie greatest total xs small within fits =
    let best = greatest_below_sum xs in
    let le = share tie (total + sum xs - max greatest (greatest_of xs)) small in
    omega (arith, best, le, within, fits)

-- ---- a further score
pub sum_further : (n x : ℕ) (xs : List ℕ) → n + x + sum xs ≡ n + sum (x ∷ xs)
sum_further n x xs = (let is = sum-cons x xs in omega (arith, is))

pub tie_further : (tie greatest total x : ℕ) (xs : List ℕ) → tie_after tie (max greatest x) (total + x) xs ≡ tie_after tie greatest total (x ∷ xs)
tie_further tie greatest total x xs = ap (λ g. with_tie tie g (total + x + sum xs)) (let is : max (max greatest x) (greatest_of xs) ≡ max greatest (max x (greatest_of xs)) = omega arith in is) ∙ ap (λ s. with_tie tie (max greatest (max x (greatest_of xs))) s) (sum_further total x xs)

-- ---- a combiner that reads no score
pub one-bounded : 1 ≤ max_score
one-bounded = omega arith
