-- Laws of the places of a phrase: those of columns in the order of offsets.
use Rattle.std.proofs.Common.{[], Bool, List, None, Some, ap, arith, false, filter, get_or, if◌then◌else◌, length, map, max, nat_le, refl, reverse, subst, sym, take, true, ◌++◌, ◌+◌, ◌-◌, ◌<◌, ◌==◌, ◌∙◌, ◌∷◌, ◌≡◌, ◌≤◌, ℕ}
use Rattle.std.proofs.lemmas.Bool.Decides.{nat_tests}
use Rattle.std.proofs.lemmas.List.{length-append, map-append, reverse-append, take_more}
use Rattle.std.specs.Option.{option_map_or}
use Rattle.std.proofs.Math.Seq.{get_or-append_seam, take-append_seam}
use Rattle.definitions.specs.JsonLeaves.{once}
use Rattle.definitions.specs.Phrases.{adjusted, by_offset, insert_by_offset, is_reached, last_and_rest, last_offset, ordered_places, phrase_places}
use Rattle.definitions.specs.Query.{Terms}
use Rattle.definitions.specs.Scoring.{greatest_of}
use Rattle.definitions.specs.Walking.{is_led_to}
use Rattle.definitions.proofs.Walks.{reached_is_led}
use Rattle.phrases.specs.Places.{AscendEach, Ascends, places_of, reached}
use Rattle.phrases.specs.PlaceLaws.{distinct-once}

-- of columns with a last one
pub places-last : (slop : ℕ) (before : List (List ℕ)) (last : List ℕ) → places_of slop (before ++ last ∷ []) ≡ filter (is_reached before slop) (once ◌==◌ last)
places-last slop before last =
    let long = length-append before (last ∷ []) in
    let n : length (before ++ last ∷ []) - 1 ≡ length before = omega (arith, long) in
    ap (λ k. filter (is_reached (take k (before ++ last ∷ [])) slop) (once ◌==◌ (get_or (before ++ last ∷ []) k []))) n
    ∙ (ap (λ xs. filter (is_reached xs slop) (once ◌==◌ (get_or (before ++ last ∷ []) (length before) []))) (take-append_seam before (last ∷ []))
    ∙ ap (λ ps. filter (is_reached before slop) (once ◌==◌ ps)) (get_or-append_seam before last [] []))

-- a list that isn't empty has a last element
pub ends : {X : Type 0} (x : X) (xs : List X) → (before : List X) × (last : X) × (x ∷ xs ≡ before ++ last ∷ [])
ends x [] = ([], x, refl)
ends x (y ∷ ys) = (let rest = ends y ys in (x ∷ rest.0, rest.1, ap (λ zs. x ∷ zs) rest.2))

filter-same : {f g : ℕ → Bool} → ((x : ℕ) → f x ≡ g x) → (xs : List ℕ) → filter f xs ≡ filter g xs
filter-same h xs = λ i. filter (λ x. h x i) xs

ascend-last : (before : List (List ℕ)) (last : List ℕ) → AscendEach (before ++ last ∷ []) → Ascends 0 last
ascend-last [] last a = a.0
ascend-last (ps ∷ before) last a = ascend-last before last a.1

-- the places of ascending columns are those that are reached
pub places-reached : (slop : ℕ) (columns : List (List ℕ)) → AscendEach columns → places_of slop columns ≡ reached slop (reverse columns)
places-reached slop [] a = refl
places-reached slop (ps ∷ columns) a =
    let e = ends ps columns in
    let ascends = ascend-last e.0 e.1 (subst AscendEach e.2 a) in
    ap (places_of slop) e.2
    ∙ (places-last slop e.0 e.1
    ∙ (filter-same (λ r. reached_is_led e.0 slop r) (once ◌==◌ e.1)
    ∙ (ap (filter (is_led_to (reverse e.0) slop)) (sym (distinct-once 0 e.1 ascends))
    ∙ sym (ap (reached slop) (ap reverse e.2 ∙ reverse-append e.0 (e.1 ∷ []))))))

-- the columns so far, the last first, and one more
pub earlier-next : {X : Type 0} (k : ℕ) (xs : List X) (d : X) → k < length xs → reverse (take (k + 1) xs) ≡ get_or xs k d ∷ reverse (take k xs)
earlier-next k xs d l = ap reverse (take_more xs k d l) ∙ reverse-append (take k xs) (get_or xs k d ∷ [])

-- ---- terms in the order of offsets

-- from a least offset on
abbrev pub Ordered : ℕ → Terms → Type 0
Ordered low [] = Unit {0}
Ordered low (t ∷ ts) = (low ≤ t.0) × Ordered t.0 ts

insert-ordered : (low : ℕ) (t : ℕ × List ℕ) (ts : Terms) → Ordered low ts → low ≤ t.0 → Ordered low (insert_by_offset t ts)
insert-ordered low t [] o l = (l, tt)
insert-ordered low t (u ∷ us) o l =
    (elim (nat_le t.0 u.0) as (λ b. nat_le t.0 u.0 ≡ b → Ordered low (if b then t ∷ u ∷ us else u ∷ insert_by_offset t us)) [
      | true ↦ (λ e. (l, (grind (arith, nat_tests, e), o.1)))
      | false ↦ (λ e. (o.0, insert-ordered u.0 t us o.1 (grind (arith, nat_tests, e))))
    ]) refl

pub sorted-ordered : (ts : Terms) → Ordered 0 (by_offset ts)
sorted-ordered [] = tt
sorted-ordered (t ∷ ts) = insert-ordered 0 t (by_offset ts) (sorted-ordered ts) (omega arith)

-- the greatest offset is that of the last
pub last-greatest : (low : ℕ) (before : Terms) (last : ℕ × List ℕ) → Ordered low (before ++ last ∷ []) → (greatest_of (map (λ t. t.0) (before ++ last ∷ [])) ≡ last.0) × (low ≤ last.0)
last-greatest low [] last o = (omega arith, o.0)
last-greatest low (t ∷ ts) last o = (let ih = last-greatest t.0 ts last o.1 in let here = o.0 in (omega (arith, ih.0, ih.1), omega (arith, ih.1, here)))

greatest-insert : (t : ℕ × List ℕ) (ts : Terms) → greatest_of (map (λ u. u.0) (insert_by_offset t ts)) ≡ max t.0 (greatest_of (map (λ u. u.0) ts))
greatest-insert t [] = refl
greatest-insert t (u ∷ us) =
    let ih = greatest-insert t us in
    elim (nat_le t.0 u.0) as (λ b. greatest_of (map (λ u. u.0) (if b then t ∷ u ∷ us else u ∷ insert_by_offset t us)) ≡ max t.0 (max u.0 (greatest_of (map (λ u. u.0) us)))) [
      | true ↦ refl
      | false ↦ (let goal : max u.0 (greatest_of (map (λ u. u.0) (insert_by_offset t us))) ≡ max t.0 (max u.0 (greatest_of (map (λ u. u.0) us))) = omega (arith, ih) in goal)
    ]

pub greatest-sorted : (ts : Terms) → greatest_of (map (λ u. u.0) (by_offset ts)) ≡ greatest_of (map (λ u. u.0) ts)
greatest-sorted [] = refl
greatest-sorted (t ∷ ts) = greatest-insert t (by_offset ts) ∙ ap (max t.0) (greatest-sorted ts)

pub last-of : (before : Terms) (last : ℕ × List ℕ) → last_and_rest (before ++ last ∷ []) ≡ Some (last, before)
last-of [] last = refl
last-of (t ∷ ts) last = ap (λ o. Some (elim o [ None ↦ (t, []) | Some p ↦ (p.0, t ∷ p.1) ])) (last-of ts last)

-- the places of terms in that order
ordered-places : (positions : List ℕ → List ℕ) (slop : ℕ) (ts : Terms) → Ordered 0 ts → places_of slop (map (adjusted positions (greatest_of (map (λ t. t.0) ts))) ts) ≡ elim (last_and_rest ts) [ None ↦ [] | Some p ↦ ordered_places positions slop p ]
ordered-places positions slop [] o = refl
ordered-places positions slop (t ∷ ts) o =
    let e = ends t ts in
    let g = (last-greatest 0 e.0 e.1 (subst (Ordered 0) e.2 o)).0 in
    ap (λ us. places_of slop (map (adjusted positions (greatest_of (map (λ u. u.0) us))) us)) e.2
    ∙ (ap (λ n. places_of slop (map (adjusted positions n) (e.0 ++ e.1 ∷ []))) g
    ∙ (ap (places_of slop) (map-append (adjusted positions e.1.0) e.0 (e.1 ∷ []))
    ∙ (places-last slop (map (adjusted positions e.1.0) e.0) (adjusted positions e.1.0 e.1)
    ∙ sym (ap (λ us. elim (last_and_rest us) [ None ↦ [] | Some p ↦ ordered_places positions slop p ]) e.2 ∙ ap (λ o. elim o [ None ↦ [] | Some p ↦ ordered_places positions slop p ]) (last-of e.0 e.1)))))

pub phrase-places : (positions : List ℕ → List ℕ) (terms : Terms) (slop : ℕ) → places_of slop (map (adjusted positions (greatest_of (map (λ t. t.0) terms))) (by_offset terms)) ≡ phrase_places positions terms slop
phrase-places positions terms slop = ap (λ n. places_of slop (map (adjusted positions n) (by_offset terms))) (sym (greatest-sorted terms)) ∙ ordered-places positions slop (by_offset terms) (sorted-ordered terms)

-- the last offset is the greatest
ordered-last : (ts : Terms) → Ordered 0 ts → option_map_or (λ p. p.0.0) (last_and_rest ts) 0 ≡ greatest_of (map (λ t. t.0) ts)
ordered-last [] o = refl
ordered-last (t ∷ ts) o =
    let e = ends t ts in
    let g = (last-greatest 0 e.0 e.1 (subst (Ordered 0) e.2 o)).0 in
    ap (λ us. option_map_or (λ p. p.0.0) (last_and_rest us) 0) e.2
    ∙ (ap (λ o. option_map_or (λ p. p.0.0) o 0) (last-of e.0 e.1)
    ∙ (sym g ∙ sym (ap (λ us. greatest_of (map (λ u. u.0) us)) e.2)))

pub last-offset : (terms : Terms) → last_offset terms ≡ greatest_of (map (λ t. t.0) terms)
last-offset terms = ordered-last (by_offset terms) (sorted-ordered terms) ∙ greatest-sorted terms
