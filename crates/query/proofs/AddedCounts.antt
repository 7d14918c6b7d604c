-- Counts that are added up, and lists of which each element stands for that of another.
use Rattle.std.proofs.Common.{[], ◌+◌, ◌<◌, ◌∙◌, ◌∷◌, ◌≡◌, List, ap, arith, drop, get_or, length, refl, subst, suc, sum_by, sym, zero, ℕ}
use Rattle.std.proofs.lemmas.List.Sums.{sum_by-cons}
use Rattle.std.specs.List.{AllZip}

-- one count more
pub counted_next : {X : Type 0} (f : X → ℕ) (xs : List X) (i : ℕ) (x : X) (count n all : ℕ) → drop i xs ≡ x ∷ drop (i + 1) xs → n ≡ f x → count + sum_by f (drop i xs) ≡ all → count + n + sum_by f (drop (i + 1) xs) ≡ all
counted_next f xs i x count n all here told so_far =
    let first = ap (sum_by f) here ∙ sum_by-cons f x (drop (i + 1) xs) in
    omega (arith, first, told, so_far)

-- no count is left
pub counted_all : {X : Type 0} (f : X → ℕ) (xs : List X) (i count all : ℕ) → drop i xs ≡ [] → count + sum_by f (drop i xs) ≡ all → count ≡ all
counted_all f xs i count all none so_far =
    let last = ap (sum_by f) none in
    omega (arith, last, so_far)

-- what the element at an index stands for, and what follows that
pub record At {X Y : Type 0} (R : X → Y → Type 0) (y : Y) (i : ℕ) (xs : List X) : Type 0 where
  pub one : X
  pub stands : R one y
  pub here : drop i xs ≡ one ∷ drop (i + 1) xs

pub zip_at : {X Y : Type 0} (R : X → Y → Type 0) (xs : List X) (ys : List Y) (i : ℕ) (y : Y) → AllZip R xs ys → i < length ys → y ≡ get_or ys i y → At R y i xs
zip_at R [] [] i y h l e = absurd (omega (arith, l))
zip_at R [] (z ∷ ys) i y h l e = absurd h
zip_at R (x ∷ xs) [] i y h l e = absurd h
zip_at R (x ∷ xs) (z ∷ ys) zero y h l e = record { one = x; stands = subst (λ w. R x w) (sym e) h.0; here = refl }
zip_at R (x ∷ xs) (z ∷ ys) (suc i) y h l e =
    let rest = zip_at R xs ys i y h.1 (omega (arith, l)) e in
    let n : suc i + 1 ≡ suc (i + 1) = omega arith in
    record { one = rest.one; stands = rest.stands; here = rest.here ∙ ap (λ j. rest.one ∷ drop j (x ∷ xs)) (sym n) }
