-- Norms that were tested in order are norms of settings.
use Rattle.std.proofs.Common.{[], ◌+◌, ◌<◌, ◌==◌, ◌&&◌, ◌^◌, ◌∙◌, ◌∷◌, ◌≡◌, Bool, List, Some, add-one, ap, arith, false, get_or, length, nat_lt, refl, suc, sym, true, zero, ℕ}
use Rattle.std.specs.Bool.{MatchBool}
use Rattle.std.specs.List.{IsAllAdjacentAnswer, list_all}
use Rattle.std.specs.List.Sorted.{IsNonDecreasing}
use Rattle.std.specs.Ordering.{is_le, is_some_and, nat_cmp}
use Rattle.std.proofs.lemmas.Bool.{and_from, and_left, and_right, eq-eqb, le-leb, lt-leb, lt-ltb}
use Rattle.std.proofs.lemmas.List.Sorted.{non_decreasing_from_is_sorted}
use Rattle.definitions.specs.Settings.{are_norms, never_falls}

-- numbers in order never fall
in_order : (ns : List ℕ) → IsNonDecreasing ns → never_falls ns ≡ true
in_order [] rise = refl
in_order (n ∷ []) rise = refl
in_order (n ∷ m ∷ ns) rise = and_from _ _ (le-leb n m (rise 0 1 0 (omega arith) (omega arith))) (in_order (m ∷ ns) (λ i j d le lt. rise (suc i) (suc j) d (omega arith) (omega arith)))

-- numbers of which one is above the next do
falls_at : (ns : List ℕ) (k : ℕ) → suc k < length ns → get_or ns (suc k) 0 < get_or ns k 0 → never_falls ns ≡ false
falls_at [] k within less = absurd (omega arith)
falls_at (n ∷ []) k within less = absurd (omega arith)
falls_at (n ∷ m ∷ ns) zero within less = and_left _ _ (lt-leb n m less)
falls_at (n ∷ m ∷ ns) (suc k) within less = and_right _ _ (falls_at (m ∷ ns) k (omega arith) less)

-- what a test of order answers is whether numbers never fall
tested : (ns : List ℕ) (answer : Bool) → MatchBool answer (IsNonDecreasing ns) ((k : ℕ) × (k + 1 < length ns) × ((d : ℕ) → get_or ns (k + 1) d < get_or ns k d)) → answer ≡ never_falls ns
tested ns true rise = sym (in_order ns rise)
tested ns false falls = sym (falls_at ns falls.0 (omega arith) (rw add-one at falls.2 0))

-- numbers that each fit 32 bits all do
all_fit : (ns : List ℕ) → ((k : ℕ) → get_or ns k 0 < 2 ^ 32) → list_all (λ n. nat_lt n (2 ^ 32)) ns ≡ true
all_fit [] fits = refl
all_fit (n ∷ ns) fits = and_from _ _ (lt-ltb n (2 ^ 32) (fits 0)) (all_fit ns (λ k. fits (suc k)))

-- 256 numbers of 32 bits that were tested in order are norms where the test says so
pub norms_tested : (ns : List ℕ) (answer : Bool) → length ns ≡ 256 → ((k : ℕ) → get_or ns k 0 < 2 ^ 32) → IsAllAdjacentAnswer (λ x y b. is_some_and is_le (Some (nat_cmp x y)) ≡ b) ns answer → answer ≡ are_norms ns
norms_tested ns answer size fits ordered = tested ns answer (non_decreasing_from_is_sorted ns answer ordered) ∙ sym (ap (λ b. b && never_falls ns) (and_from (length ns == 256) _ (eq-eqb (length ns) 256 size) (all_fit ns fits)))
