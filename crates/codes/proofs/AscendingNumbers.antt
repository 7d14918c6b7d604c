-- Ascending numbers, by their indices.
use Rattle.std.proofs.Common.{IfNone, List, Option, [], arith, get_or, length, suc, zero, ◌+◌, ◌<◌, ◌≡◌, ◌≢◌, ◌≤◌, ◌∷◌, ◌⊎◌, inl, inr, ℕ, subst, sym}
use Rattle.std.specs.List.Sorted.{IsBinarySearchResult}
use Rattle.std.specs.Ordering.{nat_cmp}
use Rattle.std.specs.Result.{result_ok}
use Rattle.std.specs.Prelude.{Err, MatchResult, Ok, Result}
use Rattle.std.proofs.lemmas.Bool.{cases_lt}
use Rattle.std.proofs.lemmas.List.Sorted.{searched}
use Rattle.layouts.specs.Deltas.{IsAscendingFrom}

-- none is below the least that may come
pub ascends_least : (next : ℕ) (xs : List ℕ) (k : ℕ) → IsAscendingFrom next xs → k < length xs → next ≤ get_or xs k 0
ascends_least next [] k ascends inside = absurd (omega arith)
ascends_least next (x ∷ xs) zero ascends inside = ascends.0
ascends_least next (x ∷ xs) (suc k) ascends inside =
    let later : x + 1 ≤ get_or xs k 0 = ascends_least (x + 1) xs k ascends.1 (omega arith) in
    let first : next ≤ x = ascends.0 in
    omega arith

-- an earlier one is below a later one
pub ascends_apart : (next : ℕ) (xs : List ℕ) (i j : ℕ) → IsAscendingFrom next xs → i < j → j < length xs → get_or xs i 0 < get_or xs j 0
ascends_apart next [] i j ascends before inside = absurd (omega arith)
ascends_apart next (x ∷ xs) i zero ascends before inside = absurd (omega arith)
ascends_apart next (x ∷ xs) zero (suc j) ascends before inside =
    let later : x + 1 ≤ get_or xs j 0 = ascends_least (x + 1) xs j ascends.1 (omega arith) in
    omega arith
ascends_apart next (x ∷ xs) (suc i) (suc j) ascends before inside = ascends_apart (x + 1) xs i j ascends.1 (omega arith) (omega arith)

-- they don't fall
pub ascends_never_falls : (xs : List ℕ) → IsAscendingFrom 0 xs → (i j : ℕ) → i ≤ j → j < length xs → get_or xs i 0 ≤ get_or xs j 0
ascends_never_falls xs ascends i j upto inside = go (cases_lt i j)
  where
    go : (i < j) ⊎ (j ≤ i) → get_or xs i 0 ≤ get_or xs j 0
    go (inl before) = (let h = ascends_apart 0 xs i j ascends before inside in omega arith)
    go (inr beyond) = (let same : i ≡ j = omega arith in subst (λ k. get_or xs i 0 ≤ get_or xs k 0) same (omega arith))

-- what a search doesn't find isn't there
pub not_found : (xs : List ℕ) (x : ℕ) (r : Result ℕ ℕ) (o : Option ℕ) → IsAscendingFrom 0 xs → IsBinarySearchResult (λ y. nat_cmp y x) xs r → o ≡ result_ok r → IfNone o ((i : ℕ) → i < length xs → get_or xs i 0 ≢ x)
not_found xs x r o ascends result is = subst (λ p. IfNone p ((i : ℕ) → i < length xs → get_or xs i 0 ≢ x)) (sym is) (go r (searched xs x r result (ascends_never_falls xs ascends)))
  where
    go : (s : Result ℕ ℕ) → MatchResult s (λ i. (i < length xs) × (get_or xs i 0 ≡ x)) (λ i. (i ≤ length xs) × ((k : ℕ) → k < i → get_or xs k 0 < x) × ((k : ℕ) → i ≤ k → k < length xs → x < get_or xs k 0)) → IfNone (result_ok s) ((i : ℕ) → i < length xs → get_or xs i 0 ≢ x)
    go (Ok i) h = tt
    go (Err i) h = λ k inside. other k inside (cases_lt k i)
      where
        other : (k : ℕ) → k < length xs → (k < i) ⊎ (i ≤ k) → get_or xs k 0 ≢ x
        other k inside (inl before) = (let below = h.1 k before in λ same. absurd (omega arith))
        other k inside (inr beyond) = (let above = h.2 k beyond inside in λ same. absurd (omega arith))
