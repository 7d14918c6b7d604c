-- How many entries of a cursor count.
use Rattle.std.proofs.Common.{[], Bool, List, ap, arith, cond, count_by, length, map, refl, sym, true, ◌+◌, ◌∙◌, ◌∷◌, ◌≡◌}
use Rattle.std.proofs.lemmas.List.Sums.{sum_by-cons}

-- a count of what elements are mapped to
pub count-map : {X Y : Type 0} (p : Y → Bool) (g : X → Y) (xs : List X) → count_by (λ x. p (g x)) xs ≡ count_by p (map g xs)
count-map p g [] = refl
count-map p g (x ∷ xs) =
    sum_by-cons (λ x. cond (p (g x)) 1 0) x xs
    ∙ (ap (λ k. cond (p (g x)) 1 0 + k) (count-map p g xs)
    ∙ sym (sum_by-cons (λ y. cond (p y) 1 0) (g x) (map g xs)))

-- where each counts, as many count as there are
pub count-all : {X : Type 0} (xs : List X) → count_by (λ x. true) xs ≡ length xs
count-all [] = refl
count-all (x ∷ xs) = let ih = count-all xs in let more = sum_by-cons (λ x. cond true 1 0) x xs in omega (arith, ih, more)
