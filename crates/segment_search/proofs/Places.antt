-- What stands at an index of lists of which each element stands for that of another.
use Rattle.std.proofs.Common.{[], ◌++◌, ◌+◌, ◌<◌, ◌∙◌, ◌∷◌, ◌≡◌, List, ap, arith, drop, drop-cons, get_or, length, refl, subst, suc, sym, zero, ℕ}
use Rattle.std.specs.List.{AllZip}

-- at an index of a list stands an element, and the others follow it
pub rest_is : {X : Type 0} (xs : List X) (i : ℕ) (x : X) → i < length xs → x ≡ get_or xs i x → drop i xs ≡ x ∷ drop (i + 1) xs
rest_is xs i x l e = let n : suc i ≡ i + 1 = omega arith in drop-cons xs i x l ∙ ap (λ y. y ∷ drop (suc i) xs) (sym e) ∙ ap (λ j. x ∷ drop j xs) n

pub zip_more : {X Y : Type 0} (R : X → Y → Type 0) (xs more : List X) (ys others : List Y) → AllZip R xs ys → AllZip R more others → AllZip R (xs ++ more) (ys ++ others)
zip_more R [] more [] others h g = g
zip_more R [] more (y ∷ ys) others h g = absurd h
zip_more R (x ∷ xs) more [] others h g = absurd h
zip_more R (x ∷ xs) more (y ∷ ys) others h g = (h.0, zip_more R xs more ys others h.1 g)

-- what the element at an index stands for, and what follows that
pub record At {X Y : Type 0} (R : X → Y → Type 0) (y : Y) (i : ℕ) (xs : List X) : Type 0 where
  pub one : X
  pub stands : R one y
  pub here : drop i xs ≡ one ∷ drop (i + 1) xs

pub zip_at : {X Y : Type 0} (R : X → Y → Type 0) (xs : List X) (ys : List Y) (i : ℕ) (y : Y) → AllZip R xs ys → i < length ys → y ≡ get_or ys i y → At R y i xs
zip_at R [] [] i y h l e = absurd (omega (arith, l))
zip_at R [] (z ∷ ys) i y h l e = absurd h
zip_at R (x ∷ xs) [] i y h l e = absurd h
zip_at R (x ∷ xs) (z ∷ ys) zero y h l e = record { one = x; stands = subst (λ w. R x w) (sym e) h.0; here = refl }
zip_at R (x ∷ xs) (z ∷ ys) (suc i) y h l e =
    let rest = zip_at R xs ys i y h.1 (omega (arith, l)) e in
    let n : suc i + 1 ≡ suc (i + 1) = omega arith in
    record { one = rest.one; stands = rest.stands; here = rest.here ∙ ap (λ j. rest.one ∷ drop j (x ∷ xs)) (sym n) }
