-- Whether some element of a list passes a test.
use Rattle.std.proofs.Common.{[], Bool, List, ap, arith, false, filter, if◌then◌else◌, length, map, nat_lt, refl, true, ◌&&◌, ◌+◌, ◌||◌, ◌≡◌, ◌∙◌, ◌∷◌, ℕ}
use Rattle.std.proofs.lemmas.Bool.Decides.{nat_tests}
use Rattle.std.specs.List.{AllByRecursion, list_any}

-- tests that agree on the elements
pub any_each : {X : Type 0} (f g : X → Bool) (xs : List X) → AllByRecursion (λ x. f x ≡ g x) xs → list_any f xs ≡ list_any g xs
any_each f g [] all = refl
any_each f g (x ∷ xs) all = ap (λ b. b || list_any f xs) all.0 ∙ ap (λ b. g x || b) (any_each f g xs all.1)

-- a part of the test that is the same of each
pub any_and : {X : Type 0} (f : X → Bool) (c : Bool) (xs : List X) → list_any (λ x. f x && c) xs ≡ (list_any f xs && c)
any_and f c [] = refl
any_and f c (x ∷ xs) = ap (λ b. (f x && c) || b) (any_and f c xs) ∙ go (f x) (list_any f xs) c
  where
    go : (a b d : Bool) → ((a && d) || (b && d)) ≡ ((a || b) && d)
    go true b true = refl
    go true true false = refl
    go true false false = refl
    go false b d = refl

-- of those that pass another test, by what is made of each
pub any_filter : {X Y : Type 0} (f : Y → Bool) (v : X → Y) (g : X → Bool) (xs : List X) → list_any f (map v (filter g xs)) ≡ list_any (λ x. g x && f (v x)) xs
any_filter f v g [] = refl
any_filter {X} f v g (x ∷ xs) = go (g x) (any_filter f v g xs)
  where
    go : (b : Bool) → list_any f (map v (filter g xs)) ≡ list_any (λ y. g y && f (v y)) xs → list_any f (map v (if b then x ∷ filter g xs else filter g xs)) ≡ ((b && f (v x)) || list_any (λ y. g y && f (v y)) xs)
    go true rest = ap (λ b. f (v x) || b) rest
    go false rest = rest

-- some pass exactly where there are some that do
pub some_filtered : {X : Type 0} (f : X → Bool) (xs : List X) → nat_lt 0 (length (filter f xs)) ≡ list_any f xs
some_filtered f [] = refl
some_filtered {X} f (x ∷ xs) = go (f x) (some_filtered f xs)
  where
    go : (b : Bool) → nat_lt 0 (length (filter f xs)) ≡ list_any f xs → nat_lt 0 (length (if b then x ∷ filter f xs else filter f xs)) ≡ (b || list_any f xs)
    go true rest = (let goal : nat_lt 0 (length (x ∷ filter f xs)) ≡ true = grind (arith, nat_tests) in goal)
    go false rest = rest

pub positive_sum : (a b : ℕ) → nat_lt 0 (a + b) ≡ (nat_lt 0 a || nat_lt 0 b)
positive_sum a b = grind (arith, nat_tests)
