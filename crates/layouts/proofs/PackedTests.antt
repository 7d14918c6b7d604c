-- What a block on literals is, by tests that compute.
use Rattle.std.proofs.Common.{ℕ, zero, suc, List, [], ◌∷◌, ◌≡◌, ◌<◌, ◌≤◌, ◌≢◌, ◌+◌, ◌*◌, ◌^◌, ◌&&◌, Bool, true, false, refl, ap, ◌∙◌, arith, get_or, length, nat_eq, nat_lt, nat_le}
use Rattle.std.proofs.Math.Nat.{one-le-pow}
use Rattle.std.proofs.Math.Pow.{pow_mono}
use Rattle.std.proofs.lemmas.Bool.Decides.{nat_tests}
use Rattle.std.specs.Int.{bit_at}
use Rattle.std.specs.List.{list_all}
use Rattle.definitions.proofs.Lists.{both_true as and_true}
use Rattle.layouts.specs.Deltas.{IsAscendingFrom}
use Rattle.layouts.specs.PackedBlocks.{IsPacked, bit_in}

-- the test holds of each number below n
abbrev pub all_to : ℕ → (ℕ → Bool) → Bool
all_to zero p = true
all_to (suc n) p = p n && all_to n p

pub all_to_each : (n : ℕ) (p : ℕ → Bool) → all_to n p ≡ true → (i : ℕ) → i < n → p i ≡ true
all_to_each zero p h i within = absurd (omega arith)
all_to_each (suc n) p h i within = go (nat_eq i n) refl (and_true (p n) (all_to n p) h) (all_to_each n p (and_true (p n) (all_to n p) h).1 i)
  where
    go : (b : Bool) → nat_eq i n ≡ b → (p n ≡ true) × (all_to n p ≡ true) → (i < n → p i ≡ true) → p i ≡ true
    go true e parts before = (let same : i ≡ n = grind (arith, nat_tests) in ap p same ∙ parts.0)
    go false e parts before = before (let other : i ≢ n = grind (arith, nat_tests) in omega arith)

pub all_below : (m : ℕ) (xs : List ℕ) → 0 < m → list_all (λ x. nat_lt x m) xs ≡ true → (i : ℕ) → get_or xs i 0 < m
all_below m [] some h i = some
all_below m (x ∷ xs) some h zero = (let first = (and_true (nat_lt x m) (list_all (λ y. nat_lt y m) xs) h).0 in grind (arith, nat_tests))
all_below m (x ∷ xs) some h (suc i) = all_below m xs some (and_true (nat_lt x m) (list_all (λ y. nat_lt y m) xs) h).1 i

-- each document comes after the one before
abbrev pub ascending_test : ℕ → List ℕ → Bool
ascending_test next [] = true
ascending_test next (doc ∷ docs) = nat_le next doc && ascending_test (doc + 1) docs

pub ascending_by_test : (next : ℕ) (docs : List ℕ) → ascending_test next docs ≡ true → IsAscendingFrom next docs
ascending_by_test next [] h = tt
ascending_by_test next (doc ∷ docs) h =
    let parts = and_true (nat_le next doc) (ascending_test (doc + 1) docs) h in
    (let first = parts.0 in grind (arith, nat_tests), ascending_by_test (doc + 1) docs parts.1)

abbrev pub bits_agree : ℕ → List ℕ → List ℕ → Bool
bits_agree w numbers bytes = all_to 128 (λ i. all_to w (λ j. nat_eq (bit_at (get_or numbers i 0) j) (bit_in bytes (i * w + j))))

pub packed_by_test : (w : ℕ) (numbers bytes : List ℕ) → length numbers ≡ 128 → length bytes ≡ 16 * w → list_all (λ x. nat_lt x (2 ^ w)) numbers ≡ true → bits_agree w numbers bytes ≡ true → IsPacked w numbers bytes
packed_by_test w numbers bytes count long small agree = record {
  count = count;
  long = long;
  small = all_below (2 ^ w) numbers (pow-pos w) small;
  bits = λ i j within few. same_by_test (bit_at (get_or numbers i 0) j) (bit_in bytes (i * w + j))
      (all_to_each w (λ j. nat_eq (bit_at (get_or numbers i 0) j) (bit_in bytes (i * w + j))) (all_to_each 128 (λ i. all_to w (λ j. nat_eq (bit_at (get_or numbers i 0) j) (bit_in bytes (i * w + j)))) agree i within) j few);
}
  where
    same_by_test : (a b : ℕ) → nat_eq a b ≡ true → a ≡ b
    same_by_test a b h = grind (arith, nat_tests)

    pow-pos : (k : ℕ) → 0 < 2 ^ k
    pow-pos k = omega (arith, one-le-pow k 2 (omega arith))

-- a number from 2 ^ m on takes more than m bits
pub takes_more : (m k x : ℕ) → 2 ^ m ≤ x → x < 2 ^ k → m < k
takes_more m k x large small = go (nat_lt m k) refl
  where
    go : (b : Bool) → nat_lt m k ≡ b → m < k
    go true e = grind (arith, nat_tests)
    go false e = (let at_most : k ≤ m = grind (arith, nat_tests) in let within : 2 ^ k ≤ 2 ^ m = pow_mono at_most in absurd (omega arith))
