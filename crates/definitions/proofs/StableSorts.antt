-- A stable sort by falling keys is the ranking.
use Rattle.std.proofs.Common.{[], ⊎_elim, ◌+◌, ◌<◌, ◌∙◌, ◌∷◌, ◌≡◌, ◌≤◌, Bool, IsSortedBy, List, ap, arith, cond, false, filter, le_refl, leb-false, ltb-false, nat_le, nat_lt, refl, suc, sym, true, ℕ}
use Rattle.std.specs.List.{AllByRecursion}
use Rattle.std.specs.List.Sorted.{IsStableBy, ties}
use Rattle.definitions.specs.NumberedHits.{NeverRises}
use Rattle.definitions.specs.Scanning.{insert_ranked, ranked}
use Rattle.definitions.proofs.Ranking.{All_below, NeverRises-ranked}
use Rattle.std.proofs.lemmas.Bool.Decides.{nat_tests}
use Rattle.std.proofs.lemmas.Bool.{cases_lt}

-- the comparison of a sort that puts greater keys first
abbrev pub goes_first : {X : Type 0} → (X → ℕ) → X → X → Bool
goes_first key a b = nat_lt (key b) (key a)

-- two elements tie where their keys are one
ties-same : {X : Type 0} (key : X → ℕ) (x y : X) → key x ≡ key y → ties (goes_first key) x y ≡ true
ties-same key x y e = grind (arith, nat_tests)

-- elements that tie have one key
ties-key : {X : Type 0} (key : X → ℕ) (x y : X) → ties (goes_first key) x y ≡ true → key x ≡ key y
ties-key key x y e = grind (arith, nat_tests)

-- an element does not tie with one of a smaller key
ties-greater : {X : Type 0} (key : X → ℕ) (x y : X) → key y < key x → ties (goes_first key) x y ≡ false
ties-greater key x y l = grind (arith, nat_tests)

-- of two elements of which at most one is kept, the order doesn't matter
kept_either_way : {X : Type 0} (b c : Bool) (x y : X) (zs : List X) → (b ≡ true → c ≡ true → ⊥) → cond c (y ∷ cond b (x ∷ zs) zs) (cond b (x ∷ zs) zs) ≡ cond b (x ∷ cond c (y ∷ zs) zs) (cond c (y ∷ zs) zs)
kept_either_way true true x y zs h = absurd (h refl refl)
kept_either_way true false x y zs h = refl
kept_either_way false c x y zs h = refl

-- an insert in order leaves each list of elements with one key as it was
filter-insert_ranked : {X : Type 0} (key : X → ℕ) (p : X → Bool) → ((x y : X) → p x ≡ true → p y ≡ true → key x ≡ key y) → (x : X) (ys : List X) → filter p (insert_ranked key x ys) ≡ filter p (x ∷ ys)
filter-insert_ranked key p one x [] = refl
filter-insert_ranked {X} key p one x (y ∷ ys) =
    let ih = filter-insert_ranked key p one x ys in
    (elim (nat_le (key y) (key x)) as (λ b. nat_le (key y) (key x) ≡ b → filter p (cond b (x ∷ y ∷ ys) (y ∷ insert_ranked key x ys)) ≡ filter p (x ∷ y ∷ ys)) [
      | true ↦ (λ e. refl)
      | false ↦ (λ e. let l = leb-false (key y) (key x) e in rw ih (kept_either_way (p x) (p y) x y (filter p ys) (λ a b. let same = one x y a b in absurd (omega arith))))
    ]) refl

-- a ranking keeps the order of elements with one key
pub filter-ranked : {X : Type 0} (key : X → ℕ) (p : X → Bool) → ((x y : X) → p x ≡ true → p y ≡ true → key x ≡ key y) → (xs : List X) → filter p (ranked key xs) ≡ filter p xs
filter-ranked key p one [] = refl
filter-ranked {X} key p one (x ∷ xs) = filter-insert_ranked key p one x (ranked key xs) ∙ ap (λ zs. cond (p x) (x ∷ zs) zs) (filter-ranked key p one xs)

-- no element ties with one whose key is greater than all
no_ties : {X : Type 0} (key : X → ℕ) (x : X) (n : ℕ) → n < key x → (ys : List X) → AllByRecursion (λ y. key y ≤ n) ys → filter (ties (goes_first key) x) ys ≡ []
no_ties key x n l [] h = refl
no_ties key x n l (y ∷ ys) h = let low = h.0 in rw (ties-greater key x y (omega arith)) (no_ties key x n l ys h.1)

-- a list with an element is not empty
cons-not-nil : {X : Type 0} (y : X) (ys : List X) → y ∷ ys ≡ [] → ⊥
cons-not-nil y ys e = cc

-- where something ties with x, the first of falling keys is at least that of x
first_key : {X : Type 0} (key : X → ℕ) (x y z : X) (rest zs : List X) → NeverRises key (z ∷ zs) → y ∷ rest ≡ filter (ties (goes_first key) x) (z ∷ zs) → key x ≤ key z
first_key key x y z rest zs h e = ⊎_elim (λ l. absurd (cons-not-nil y rest (e ∙ no_ties key x (key z) l (z ∷ zs) (le_refl (key z), h.0)))) (λ l. l) (cases_lt (key z) (key x))

-- equal lists have equal first elements and equal rests
cons-parts : {X : Type 0} (y z : X) (ys zs : List X) → y ∷ ys ≡ z ∷ zs → (y ≡ z) × (ys ≡ zs)
cons-parts y z ys zs e = (cc, cc)

-- what is kept of two lists with one first element is the same of their rests
same_rests : {X : Type 0} (b : Bool) (y : X) (ys zs : List X) → cond b (y ∷ ys) ys ≡ cond b (y ∷ zs) zs → ys ≡ zs
same_rests true y ys zs e = (cons-parts y y ys zs e).1
same_rests false y ys zs e = e

-- what ties with an element that comes first is kept with it
filter-first : {X : Type 0} (key : X → ℕ) (x y : X) (ys : List X) → key x ≡ key y → filter (ties (goes_first key) x) (y ∷ ys) ≡ y ∷ filter (ties (goes_first key) x) ys
filter-first key x y ys e = rw (ties-same key x y e)

-- two lists along which keys never rise, with the same elements of each key in the same order, are one
same_from_ties : {X : Type 0} (key : X → ℕ) (ys zs : List X) → NeverRises key ys → NeverRises key zs → ((x : X) → filter (ties (goes_first key) x) ys ≡ filter (ties (goes_first key) x) zs) → ys ≡ zs
same_from_ties key [] [] h k same = refl
same_from_ties key [] (z ∷ zs) h k same = absurd (cons-not-nil z _ (sym (filter-first key z z zs refl) ∙ sym (same z)))
same_from_ties key (y ∷ ys) [] h k same = absurd (cons-not-nil y _ (sym (filter-first key y y ys refl) ∙ same y))
same_from_ties {X} key (y ∷ ys) (z ∷ zs) h k same =
    let at : List X → X → List X = λ ws x. filter (ties (goes_first key) x) ws in
    let up : key y ≤ key z = first_key key y y z (at ys y) zs k (sym (filter-first key y y ys refl) ∙ same y) in
    let down : key z ≤ key y = first_key key z z y (at zs z) ys h (sym (filter-first key z z zs refl) ∙ sym (same z)) in
    let one : y ≡ z = (cons-parts y z (at ys y) (at zs y) (sym (filter-first key y y ys refl) ∙ (same y ∙ filter-first key y z zs (omega arith)))).0 in
    let rests : (x : X) → at ys x ≡ at zs x = λ x. same_rests (ties (goes_first key) x y) y (at ys x) (at zs x) (same x ∙ ap (λ w. cond (ties (goes_first key) x w) (w ∷ at zs x) (at zs x)) (sym one)) in
    let rest : ys ≡ zs = same_from_ties key ys zs h.1 k.1 rests in
    cc

-- the rest of a sorted list is sorted
sorted-rest : {X : Type 0} (lt : X → X → Bool) (x : X) (xs : List X) → IsSortedBy lt (x ∷ xs) → IsSortedBy lt xs
sorted-rest lt x xs h k d low within = let e : suc k + 1 ≡ suc (k + 1) = omega arith in rw e at (h (suc k) d (omega arith) (omega arith))

-- along a list sorted by falling keys no key is below one after it
pub NeverRises-sorted : {X : Type 0} (key : X → ℕ) (xs : List X) → IsSortedBy (goes_first key) xs → NeverRises key xs
NeverRises-sorted key [] h = tt
NeverRises-sorted key (x ∷ []) h = (tt, tt)
NeverRises-sorted key (x ∷ y ∷ ys) h =
    let rest = NeverRises-sorted key (y ∷ ys) (sorted-rest (goes_first key) x (y ∷ ys) h) in
    let l : key y ≤ key x = ltb-false (key x) (key y) (h 0 x (omega arith) (omega arith)) in
    ((l, All_below key (key y) (key x) l ys rest.0), rest)

-- a stable sort by falling keys is the ranking
pub sorted_is_ranked : {X : Type 0} (key : X → ℕ) (xs ys : List X) → IsSortedBy (λ a b. nat_lt (key b) (key a)) ys → IsStableBy (λ a b. nat_lt (key b) (key a)) xs ys → ys ≡ ranked key xs
sorted_is_ranked key xs ys sorted stable = same_from_ties key ys (ranked key xs) (NeverRises-sorted key ys sorted) (NeverRises-ranked key xs) (λ x. stable x ∙ sym (filter-ranked key (ties (goes_first key) x) (λ y z a b. sym (ties-key key x y a) ∙ ties-key key x z b) xs))
