-- What is so of all items of a list, one after the other.
use Rattle.std.proofs.Common.{[], ◌+◌, ◌∷◌, ◌≡◌, ◌≤◌, List, ap, arith, drop, length, subst, suc, take, zero, ℕ}
use Rattle.std.specs.List.{AllByRecursion}
use Rattle.std.specs.Prelude.{Contains, Some, slice_get}

pub at_front : {X : Type 0} (xs : List X) (n : ℕ) (x : X) (rest : List X) → drop n xs ≡ x ∷ rest → slice_get xs n ≡ Some x
at_front [] zero x rest e = cc
at_front [] (suc n) x rest e = cc
at_front (y ∷ ys) zero x rest e = (let same : y ≡ x = cc in ap Some same)
at_front (y ∷ ys) (suc n) x rest e = at_front ys n x rest e

next : (n : ℕ) → suc n ≡ n + 1
next n = omega arith

drop_next : {X : Type 0} (xs : List X) (n : ℕ) (x : X) (rest : List X) → drop n xs ≡ x ∷ rest → drop (suc n) xs ≡ rest
drop_next [] zero x rest e = cc
drop_next [] (suc n) x rest e = cc
drop_next (y ∷ ys) zero x rest e = cc
drop_next (y ∷ ys) (suc n) x rest e = drop_next ys n x rest e

pub drop_more : {X : Type 0} (xs : List X) (n : ℕ) (x : X) (rest : List X) → drop n xs ≡ x ∷ rest → drop (n + 1) xs ≡ rest
drop_more xs n x rest e = subst (λ m. drop m xs ≡ rest) (next n) (drop_next xs n x rest e)

-- ---- by their indices

all_next : {X : Type 0} (P : X → Type 0) (xs : List X) (n : ℕ) (x : X) → slice_get xs n ≡ Some x → AllByRecursion P (take n xs) → P x → AllByRecursion P (take (suc n) xs)
all_next P [] zero x e all here = cc
all_next P [] (suc n) x e all here = cc
all_next P (y ∷ ys) zero x e all here = (let same : x ≡ y = cc in (subst P same here, tt))
all_next P (y ∷ ys) (suc n) x e all here = (all.0, all_next P ys n x e all.1 here)

pub all_step : {X : Type 0} (P : X → Type 0) (xs : List X) (n : ℕ) (x : X) → slice_get xs n ≡ Some x → AllByRecursion P (take n xs) → P x → AllByRecursion P (take (n + 1) xs)
all_step P xs n x e all here = subst (λ m. AllByRecursion P (take m xs)) (next n) (all_next P xs n x e all here)

pub all_done : {X : Type 0} (P : X → Type 0) (xs : List X) (n : ℕ) → length xs ≤ n → AllByRecursion P (take n xs) → AllByRecursion P xs
all_done P [] n past all = tt
all_done P (y ∷ ys) zero past all = absurd (omega arith)
all_done P (y ∷ ys) (suc n) past all = (all.0, all_done P ys n (omega arith) all.1)

-- what no item is isn't contained
pub none_contained : {X : Type 0} (x : X) (xs : List X) → AllByRecursion (λ y. ¬ (y ≡ x)) xs → ¬ Contains xs x
none_contained x [] all (k, within, is) = omega arith
none_contained x (y ∷ ys) all (zero, within, is) = all.0 is
none_contained x (y ∷ ys) all (suc k, within, is) = none_contained x ys all.1 (k, omega arith, is)

-- what an item is is contained
pub contains_at : {X : Type 0} (xs : List X) (n : ℕ) (y x : X) → slice_get xs n ≡ Some y → y ≡ x → Contains xs x
contains_at [] zero y x at is = cc
contains_at [] (suc n) y x at is = cc
contains_at (z ∷ zs) zero y x at is = (let first : z ≡ x = cc in (0, omega arith, first))
contains_at (z ∷ zs) (suc n) y x at is = (let (k, within, same) = contains_at zs n y x at is in (suc k, omega arith, same))
