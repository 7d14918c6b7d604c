-- Laws of places: what the costs and the merge find are those of the definitions.
use Rattle.std.proofs.Common.{[], ◌&&◌, ◌+◌, ◌-◌, ◌==◌, ◌∙◌, ◌∷◌, ◌≡◌, ◌≤◌, Bool, List, ap, arith, false, filter, if◌then◌else◌, le-leb, nat_le, not, refl, sym, true, ℕ}
use Rattle.std.proofs.lemmas.Bool.Decides.{nat_tests}
use Rattle.definitions.specs.JsonLeaves.{once}
use Rattle.phrases.specs.MergeLaws.{Rises-lower}
use Rattle.phrases.specs.Places.{Ascends, Rises, distinct}

-- ---- each once

-- all are at one or above
abbrev Above : ℕ → List ℕ → Type 0
Above low [] = Unit {0}
Above low (x ∷ xs) = (low ≤ x) × Above low xs

Above-lower : (low high : ℕ) (xs : List ℕ) → low ≤ high → Above high xs → Above low xs
Above-lower low high [] l a = tt
Above-lower low high (x ∷ xs) l a = (omega (arith, l, a.0), Above-lower low high xs l a.1)

Above-filter : (f : ℕ → Bool) (low : ℕ) (xs : List ℕ) → Above low xs → Above low (filter f xs)
Above-filter f low [] a = tt
Above-filter f low (x ∷ xs) a = (let rest = Above-filter f low xs a.1 in elim (f x) as (λ b. Above low (if b then x ∷ filter f xs else filter f xs)) [ true ↦ (a.0, rest) | false ↦ rest ])

Above-once : (low : ℕ) (ps : List ℕ) → Ascends low ps → Above low (once ◌==◌ ps)
Above-once low [] a = tt
Above-once low (p ∷ ps) a = (a.0, Above-filter (λ y. not (p == y)) low (once ◌==◌ ps) (Above-lower low p (once ◌==◌ ps) a.0 (Above-once p ps a.1)))

filter-above : (f g : ℕ → Bool) (low : ℕ) (xs : List ℕ) → Above low xs → ((x : ℕ) → low ≤ x → f x ≡ g x) → filter f xs ≡ filter g xs
filter-above f g low [] a same = refl
filter-above f g low (x ∷ xs) a same = ap (λ b. if b then x ∷ filter f xs else filter f xs) (same x a.0) ∙ ap (λ ys. if g x then x ∷ ys else ys) (filter-above f g low xs a.1 same)

pub filter-filter : (f g : ℕ → Bool) (xs : List ℕ) → filter f (filter g xs) ≡ filter (λ x. g x && f x) xs
filter-filter f g [] = refl
filter-filter f g (x ∷ xs) = (let ih = filter-filter f g xs in elim (g x) as (λ b. filter f (if b then x ∷ filter g xs else filter g xs) ≡ (if b && f x then x ∷ filter (λ x. g x && f x) xs else filter (λ x. g x && f x) xs)) [
  | true ↦ ap (λ ys. if f x then x ∷ ys else ys) ih
  | false ↦ ih
])

-- of ascending positions those from one on, each once
distinct-filter : (low next : ℕ) (ps : List ℕ) → Ascends low ps → distinct next ps ≡ filter (nat_le next) (once ◌==◌ ps)
distinct-filter low next [] a = refl
distinct-filter low next (p ∷ ps) a =
    let further = distinct-filter p (p + 1) ps a.1 in
    let rest = distinct-filter p next ps a.1 in
    let above = Above-once p ps a.1 in
    let cut = filter-filter (nat_le next) (λ y. not (p == y)) (once ◌==◌ ps) in
    (elim (nat_le next p) as (λ b. nat_le next p ≡ b → (if b then p ∷ distinct (p + 1) ps else distinct next ps) ≡ (if b then p ∷ filter (nat_le next) (filter (λ y. not (p == y)) (once ◌==◌ ps)) else filter (nat_le next) (filter (λ y. not (p == y)) (once ◌==◌ ps)))) [
      | true ↦ (λ e. ap (λ xs. p ∷ xs) (further ∙ (filter-above (nat_le (p + 1)) (λ x. not (p == x) && nat_le next x) p (once ◌==◌ ps) above (λ x l. grind (arith, nat_tests, e, l)) ∙ sym cut)))
      | false ↦ (λ e. rest ∙ (filter-above (nat_le next) (λ x. not (p == x) && nat_le next x) p (once ◌==◌ ps) above (λ x l. grind (arith, nat_tests, e, l)) ∙ sym cut))
    ]) refl

filter-all : (xs : List ℕ) → filter (nat_le 0) xs ≡ xs
filter-all [] = refl
filter-all (x ∷ xs) = ap (λ b. if b then x ∷ filter (nat_le 0) xs else filter (nat_le 0) xs) (le-leb 0 x (omega arith)) ∙ ap (λ ys. x ∷ ys) (filter-all xs)

pub distinct-once : (low : ℕ) (ps : List ℕ) → Ascends low ps → distinct 0 ps ≡ once ◌==◌ ps
distinct-once low ps a = distinct-filter low 0 ps a ∙ filter-all (once ◌==◌ ps)

pub Rises-filter : (f : ℕ → Bool) (low : ℕ) (xs : List ℕ) → Rises low xs → Rises low (filter f xs)
Rises-filter f low [] r = tt
Rises-filter f low (x ∷ xs) r = (let rest = Rises-filter f (x + 1) xs r.1 in elim (f x) as (λ b. Rises low (if b then x ∷ filter f xs else filter f xs)) [ true ↦ (r.0, rest) | false ↦ Rises-lower low (x + 1) (filter f xs) (omega (arith, r.0)) rest ])
