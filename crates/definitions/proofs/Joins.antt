-- Facts about lists of lists joined end to end, and about lists cut into pieces.
use Rattle.std.proofs.Common.{[], ◌*◌, ◌++◌, ◌+◌, ◌-◌, ◌/◌, ◌<◌, ◌∙◌, ◌∷◌, ◌≡◌, ◌≤◌, List, ap, arith, drop, flat_map, length, map, refl, suc, sym, take, zero, ℕ}
use Rattle.definitions.specs.State.{groups_of, pieces}
use Rattle.std.proofs.lemmas.List.{drop-drop, length-drop, nil_from_length, take-append-drop}
use Rattle.std.proofs.Math.Nat.{div-eq_of_lt}
use Rattle.std.proofs.lemmas.List.Concat.{flat_map-append}

-- the lists one after the other
abbrev pub joined : {X : Type 0} → List (List X) → List X
joined xss = flat_map (λ xs. xs) xss

-- what is done to each part is done to the whole
pub joined-map : {X Y : Type 0} (f : List X → List Y) → f [] ≡ [] → ((xs ys : List X) → f (xs ++ ys) ≡ f xs ++ f ys) → (xss : List (List X)) → joined (map f xss) ≡ f (joined xss)
joined-map f none more [] = sym none
joined-map f none more (xs ∷ xss) = ap (λ ys. f xs ++ ys) (joined-map f none more xss) ∙ sym (more xs (joined xss))

-- enough pieces join to the list
joined-groups_of : {X : Type 0} (more n : ℕ) (xs : List X) → length xs ≤ more * n → joined (groups_of more n xs) ≡ xs
joined-groups_of zero n xs l = sym (nil_from_length xs (omega arith))
joined-groups_of (suc more) n xs l = ap (λ ys. take n xs ++ ys) (joined-groups_of more n (drop n xs) (rw length-drop (omega arith))) ∙ take-append-drop n xs

-- the pieces of a list join to it
pub joined-pieces : {X : Type 0} (n : ℕ) (xs : List X) → 1 ≤ n → joined (pieces n xs) ≡ xs
joined-pieces n xs l = joined-groups_of ((length xs + n - 1) / n) n xs (omega arith)

-- there is no piece of nothing
pub pieces-nil : {X : Type 0} (n : ℕ) → pieces {X = X} n [] ≡ []
pieces-nil {X} zero = refl
pieces-nil {X} (suc n) = let l : 0 + suc n - 1 < suc n = omega arith in rw (div-eq_of_lt l)

-- what two neighbours join to
joined-both : {X : Type 0} (n : ℕ) (xss : List (List X)) → joined (take n xss) ++ joined (drop n xss) ≡ joined xss
joined-both n xss = sym (flat_map-append (λ xs. xs) (take n xss) (drop n xss)) ∙ ap joined (take-append-drop n xss)

-- a front, a middle and a rest join to the whole
pub joined-cut : {X : Type 0} (from to : ℕ) (xss : List (List X)) → from ≤ to → joined (take from xss) ++ (joined (take (to - from) (drop from xss)) ++ joined (drop to xss)) ≡ joined xss
joined-cut from to xss l =
    let e : from + (to - from) ≡ to = omega arith in
    let rest : joined (drop to xss) ≡ joined (drop (to - from) (drop from xss)) = ap (λ n. joined (drop n xss)) (sym e) ∙ ap joined (sym (drop-drop (to - from) from xss)) in
    let middle = ap (λ ys. joined (take (to - from) (drop from xss)) ++ ys) rest ∙ joined-both (to - from) (drop from xss) in
    ap (λ ys. joined (take from xss) ++ ys) middle ∙ joined-both from xss
