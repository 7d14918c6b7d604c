-- Laws of marks that stand for positions.
use Rattle.std.proofs.Common.{Bool, List, ap, arith, drop, false, get_or, length, set, sym, ◌+◌, ◌<◌, ◌∙◌, ◌≡◌, ℕ}
use Rattle.std.proofs.lemmas.List.{drop-set-lt, get_or-drop, length-set, take-set}
use Rattle.std.proofs.lemmas.List.Filters.{FiltersInPlace, FiltersInPlace-more_no}

-- one that isn't kept is written in front, and behind it all is as it was
pub kept-out : (f : ℕ → Bool) (xs ys : List ℕ) (k i x : ℕ) → FiltersInPlace f xs ys k i → i < length ys → f x ≡ false → x ≡ get_or ys i x → FiltersInPlace f xs (set ys k x) k (i + 1)
kept-out f xs ys k i x kept l e read =
    let next : FiltersInPlace f xs ys k (i + 1) = FiltersInPlace-more_no kept l e read in
    let behind = kept.behind in
    record {
      front = take-set ys k x ∙ next.front;
      rest = drop-set-lt (i + 1) ys k x (omega (arith, behind)) ∙ next.rest;
      behind = next.behind;
      within = next.within;
      long = length-set ys k x ∙ next.long;
    }

-- what is left is as it was at its first index
pub left-as-it-was : (xs ys : List ℕ) (i : ℕ) → drop i ys ≡ drop i xs → get_or ys i 0 ≡ get_or xs i 0
left-as-it-was xs ys i e = sym (at ys) ∙ (ap (λ zs. get_or zs 0 0) e ∙ at xs)
  where
    at : (zs : List ℕ) → get_or (drop i zs) 0 0 ≡ get_or zs i 0
    at zs = (let none : i + 0 ≡ i = omega arith in get_or-drop i zs 0 0 ∙ ap (λ k. get_or zs k 0) none)
