-- Laws of the greatest of numbers so far.
use Rattle.std.proofs.Common.{[], List, ap, get_or, length, map, max, sym, take, ◌+◌, ◌<◌, ◌∙◌, ◌∷◌, ◌≡◌, ℕ}
use Rattle.std.proofs.lemmas.List.{map-append, take_more}
use Rattle.definitions.proofs.Lists.{greatest-last}
use Rattle.definitions.specs.Scoring.{greatest_of}

-- with one more
pub greatest-take : {X : Type 0} (f : X → ℕ) (xs : List X) (i : ℕ) (x : X) → i < length xs → x ≡ get_or xs i x → greatest_of (map f (take (i + 1) xs)) ≡ max (greatest_of (map f (take i xs))) (f x)
greatest-take f xs i x l is =
    ap (λ ys. greatest_of (map f ys)) (take_more xs i x l)
    ∙ (ap greatest_of (map-append f (take i xs) (get_or xs i x ∷ []))
    ∙ (greatest-last (map f (take i xs)) (f (get_or xs i x))
    ∙ ap (λ y. max (greatest_of (map f (take i xs))) (f y)) (sym is)))
