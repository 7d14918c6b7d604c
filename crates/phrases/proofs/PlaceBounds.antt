-- Bounds of how many places there are: what columns have.
use Rattle.std.proofs.Common.{[], ◌&&◌, ◌+◌, ◌-◌, ◌<◌, ◌==◌, ◌||◌, ◌∙◌, ◌∷◌, ◌≡◌, ◌≤◌, Bool, List, ap, arith, false, filter, get_or, if◌then◌else◌, length, not, refl, reverse, subst, suc, sym, take, true, zero, ℕ}
use Rattle.std.proofs.lemmas.Bool.Decides.{nat_tests}
use Rattle.std.proofs.lemmas.List.{get_or-reverse, get_or-take, length-reverse, length-take}
use Rattle.definitions.proofs.Lists.{by_order, both_true}
use Rattle.definitions.proofs.Walks.{reached_is_led}
use Rattle.definitions.specs.JsonLeaves.{once}
use Rattle.definitions.specs.Phrases.{is_reached}
use Rattle.definitions.specs.Walking.{is_led_to}
use Rattle.docsets.proofs.DistinctLaws.{length-kept, length-once as once_few}
use Rattle.phrases.proofs.PlaceLaws.{led-zero}
use Rattle.phrases.specs.PlaceLaws.{filter-filter}
use Rattle.phrases.specs.Places.{has, places_of}

-- ---- how many a test keeps

kept_more : (g : ℕ → Bool) (x : ℕ) (xs : List ℕ) → length (filter g xs) ≤ length (filter g (x ∷ xs))
kept_more g x xs = elim (g x) as (λ b. length (filter g xs) ≤ length (if b then x ∷ filter g xs else filter g xs)) [
  | true ↦ (let goal : length (filter g xs) ≤ suc (length (filter g xs)) = omega arith in goal)
  | false ↦ (let goal : length (filter g xs) ≤ length (filter g xs) = omega arith in goal)
]

-- a test that more pass keeps no fewer
kept_fewer : (f g : ℕ → Bool) → ((x : ℕ) → f x ≡ true → g x ≡ true) → (xs : List ℕ) → length (filter f xs) ≤ length (filter g xs)
kept_fewer f g weaker [] = omega arith
kept_fewer f g weaker (x ∷ xs) =
    let ih = kept_fewer f g weaker xs in
    let more = kept_more g x xs in
    (elim (f x) as (λ b. f x ≡ b → length (if b then x ∷ filter f xs else filter f xs) ≤ length (filter g (x ∷ xs))) [
      | true ↦ (λ e. (let is : length (filter g (x ∷ xs)) ≡ suc (length (filter g xs)) = ap (λ b. length (if b then x ∷ filter g xs else filter g xs)) (weaker x e) in
          let goal : suc (length (filter f xs)) ≤ length (filter g (x ∷ xs)) = omega (arith, ih, is) in goal))
      | false ↦ (λ e. (let goal : length (filter f xs) ≤ length (filter g (x ∷ xs)) = omega (arith, ih, more) in goal))
    ]) refl

-- one that none passes keeps none
kept_none : (f : ℕ → Bool) → ((x : ℕ) → f x ≡ false) → (xs : List ℕ) → length (filter f xs) ≡ 0
kept_none f none [] = refl
kept_none f none (x ∷ xs) = ap (λ b. length (if b then x ∷ filter f xs else filter f xs)) (none x) ∙ kept_none f none xs

-- either of two tests keeps no more than both together
kept_either : (f g : ℕ → Bool) (xs : List ℕ) → length (filter (λ x. f x || g x) xs) ≤ length (filter f xs) + length (filter g xs)
kept_either f g [] = omega arith
kept_either f g (x ∷ xs) =
    let either : List ℕ = filter (λ x. f x || g x) xs in
    let ih : length either ≤ length (filter f xs) + length (filter g xs) = kept_either f g xs in
    elim (f x) as (λ a. length (if a || g x then x ∷ either else either) ≤ length (if a then x ∷ filter f xs else filter f xs) + length (filter g (x ∷ xs))) [
      | true ↦ (let more = kept_more g x xs in let goal : suc (length either) ≤ suc (length (filter f xs)) + length (filter g (x ∷ xs)) = omega (arith, ih, more) in goal)
      | false ↦ elim (g x) as (λ b. length (if b then x ∷ either else either) ≤ length (filter f xs) + length (if b then x ∷ filter g xs else filter g xs)) [
        | true ↦ (let goal : suc (length either) ≤ length (filter f xs) + suc (length (filter g xs)) = omega (arith, ih) in goal)
        | false ↦ ih
      ]
    ]

-- ---- numbers, each once

-- none is there twice
once_one : (y : ℕ) (zs : List ℕ) → length (filter (λ x. y == x) (once ◌==◌ zs)) ≤ 1
once_one y [] = omega arith
once_one y (z ∷ zs) =
    let others : List ℕ = filter (λ w. not (z == w)) (once ◌==◌ zs) in
    let ih = once_one y zs in
    let same = ap length (filter-filter (λ x. y == x) (λ w. not (z == w)) (once ◌==◌ zs)) in
    (elim (y == z) as (λ b. (y == z) ≡ b → length (if b then z ∷ filter (λ x. y == x) others else filter (λ x. y == x) others) ≤ 1) [
      | true ↦ (λ e. (let none = kept_none (λ x. not (z == x) && (y == x)) (λ x. grind (arith, nat_tests, e)) (once ◌==◌ zs) in
          let goal : suc (length (filter (λ x. y == x) others)) ≤ 1 = omega (arith, same, none) in goal))
      | false ↦ (λ e. (let fewer = kept_fewer (λ x. not (z == x) && (y == x)) (λ x. y == x) (λ x h. (both_true (not (z == x)) (y == x) h).1) (once ◌==◌ zs) in
          let goal : length (filter (λ x. y == x) others) ≤ 1 = omega (arith, same, fewer, ih) in goal))
    ]) refl

-- those that others have too are no more than these
shared_few : (ys zs : List ℕ) → length (filter (has ys) (once ◌==◌ zs)) ≤ length ys
shared_few [] zs = (let none = kept_none (has []) (λ x. refl) (once ◌==◌ zs) in omega (arith, none))
shared_few (y ∷ ys) zs =
    let ih = shared_few ys zs in
    let one = once_one y zs in
    let either : length (filter (has (y ∷ ys)) (once ◌==◌ zs)) ≤ length (filter (λ x. y == x) (once ◌==◌ zs)) + length (filter (has ys) (once ◌==◌ zs)) = kept_either (λ x. y == x) (has ys) (once ◌==◌ zs) in
    omega (arith, ih, one, either)

-- ---- places

-- places are positions of the last column
pub places_last : (slop : ℕ) (columns : List (List ℕ)) → length (places_of slop columns) ≤ length (get_or columns (length columns - 1) [])
places_last slop columns =
    let last : List ℕ = get_or columns (length columns - 1) [] in
    let kept = length-kept (is_reached (take (length columns - 1) columns) slop) (once ◌==◌ last) in
    let few = once_few last in
    omega (arith, kept, few)

-- without slop lists lead to what each of them has
led_each : (before : List (List ℕ)) (r i : ℕ) → is_led_to before 0 r ≡ true → i < length before → has (get_or before i []) r ≡ true
led_each [] r i led l = absurd (omega (arith, l))
led_each (ls ∷ before) r zero led l = (both_true (has ls r) (is_led_to before 0 r) (sym (led-zero ls before r) ∙ led)).0
led_each (ls ∷ before) r (suc i) led l = led_each before r i (both_true (has ls r) (is_led_to before 0 r) (sym (led-zero ls before r) ∙ led)).1 (omega (arith, l))

-- a place without slop is in each column before the last
reached_each : (earlier : List (List ℕ)) (r i : ℕ) → is_reached earlier 0 r ≡ true → i < length earlier → has (get_or earlier i []) r ≡ true
reached_each earlier r i reached l =
    let k : ℕ = length earlier - 1 - i in
    let long = length-reverse earlier in
    let back : length earlier - 1 - k ≡ i = omega (arith, l) in
    let led : is_led_to (reverse earlier) 0 r ≡ true = sym (reached_is_led earlier 0 r) ∙ reached in
    subst (λ ls. has ls r ≡ true) (get_or-reverse earlier k [] (omega (arith, l)) ∙ ap (λ m. get_or earlier m []) back) (led_each (reverse earlier) r k led (omega (arith, long, l)))

-- so there are no more than any column has
pub places_each : (columns : List (List ℕ)) (i : ℕ) → i < length columns → length (places_of 0 columns) ≤ length (get_or columns i [])
places_each columns i l =
    let n : ℕ = length columns - 1 in
    let last : List ℕ = get_or columns n [] in
    let earlier : List (List ℕ) = take n columns in
    by_order n i (length (places_of 0 columns) ≤ length (get_or columns i []))
    (λ late. (let same : n ≡ i = omega (arith, l, late) in let column = ap (λ k. length (get_or columns k [])) same in let few = places_last 0 columns in omega (arith, column, few)))
    (λ early.
    let long = length-take n columns in
    let own : List ℕ = get_or columns i [] in
    let each : (x : ℕ) → is_reached earlier 0 x ≡ true → has own x ≡ true = (λ x e. subst (λ ls. has ls x ≡ true) (get_or-take n columns i [] early) (reached_each earlier x i e (omega (arith, long, early, l)))) in
    let fewer = kept_fewer (is_reached earlier 0) (has own) each (once ◌==◌ last) in
    let few = shared_few own last in
    let goal : length (filter (is_reached earlier 0) (once ◌==◌ last)) ≤ length own = omega (arith, fewer, few) in goal)

-- what one column bounds: the last, or any without slop
pub places_bound : (slop most index : ℕ) (is_last : Bool) (columns : List (List ℕ)) → (0 < slop → is_last ≡ true) → index < length columns → (is_last ≡ true → index + 1 ≡ length columns) → length (get_or columns index []) ≤ most → length (places_of slop columns) ≤ most
places_bound slop most index is_last columns sure within last few = by_order 1 slop (length (places_of slop columns) ≤ most)
    (λ some. (let at = last (sure (omega (arith, some))) in let same : length columns - 1 ≡ index = omega (arith, at) in let column = ap (λ k. length (get_or columns k [])) same in let fewer = places_last slop columns in omega (arith, column, fewer, few)))
    (λ none. (let zero : slop ≡ 0 = omega (arith, none) in let is = ap (λ s. length (places_of s columns)) zero in let fewer = places_each columns index within in omega (arith, is, fewer, few)))
