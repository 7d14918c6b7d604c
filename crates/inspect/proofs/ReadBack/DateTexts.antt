-- The parts of a date's text, as `jiff` writes them.
use Rattle.std.proofs.Common.{[], Bool, List, None, ap, ap₂, arith, false, if◌then◌else◌, length, length-append, pow-suc, refl, subst, suc, sym, take, true, zero, ◌%◌, ◌+◌, ◌++◌, ◌-◌, ◌/◌, ◌<◌, ◌==◌, ◌^◌, ◌∙◌, ◌∷◌, ◌≡◌, ◌≤◌, ℕ}
use Rattle.std.proofs.lemmas.Bool.{eqb-false, eqb-true}
use Rattle.definitions.proofs.Lists.{take_whole}
use Rattle.definitions.specs.Dates.{fraction_text, padded, without_last_zeros}
use Rattle.jiff_fmt.specs.Text.{fraction_part, pad2, pad4, places, trailing_zeros}
use Rattle.values_json.proofs.PaddedTexts.{fraction_kept, fraction_shorter, padded_digit, padded_step}

abbrev alone : ℕ → List ℕ
alone d = d ∷ []

digits_1 : (n : ℕ) → n < 10 → padded 1 n ≡ alone (48 + n)
digits_1 n small = padded_digit n small ∙ ap (λ d. alone (48 + d)) (let is : n % 10 ≡ n = omega arith in is)

pub digits_2 : (n : ℕ) → n < 100 → padded 2 n ≡ pad2 n
digits_2 n small = padded_step 1 n (omega arith) (omega (arith, small)) ∙ ap (λ t. t ++ alone (48 + n % 10)) (digits_1 (n / 10) (omega arith))

digits_3 : (n : ℕ) → n < 1000 → padded 3 n ≡ (48 + n / 100) ∷ (48 + n / 10 % 10) ∷ (48 + n % 10) ∷ []
digits_3 n small =
    padded_step 2 n (omega arith) (omega (arith, small)) ∙ ap (λ t. t ++ alone (48 + n % 10)) (digits_2 (n / 10) (omega arith))
    ∙ ap (λ d. (48 + d) ∷ (48 + n / 10 % 10) ∷ (48 + n % 10) ∷ []) (let is : n / 10 / 10 ≡ n / 100 = omega arith in is)

pub digits_4 : (n : ℕ) → n < 10000 → padded 4 n ≡ pad4 n
digits_4 n small =
    let a : n / 10 / 100 ≡ n / 100 / 10 = omega arith in
    let b : n / 10 / 10 % 10 ≡ n / 100 % 10 = omega arith in
    let c : n / 10 % 10 ≡ n % 100 / 10 = omega arith in
    let d : n % 10 ≡ n % 100 % 10 = omega arith in
    padded_step 3 n (omega arith) (omega (arith, small)) ∙ ap (λ t. t ++ alone (48 + n % 10)) (digits_3 (n / 10) (omega arith))
    ∙ ap₂ (λ x y. (48 + x) ∷ (48 + y) ∷ (48 + n / 10 % 10) ∷ (48 + n % 10) ∷ []) a b
    ∙ ap₂ (λ x y. (48 + n / 100 / 10) ∷ (48 + n / 100 % 10) ∷ (48 + x) ∷ (48 + y) ∷ []) c d

-- ---- nine digits, from the right

right : ℕ → ℕ → List ℕ
right zero n = []
right (suc w) n = right w (n / 10) ++ alone (48 + n % 10)

padded_right : (w n : ℕ) → n < 10 ^ suc w → n < 2 ^ 64 → padded (suc w) n ≡ right (suc w) n
unfolding right
padded_right zero n fits small = padded_digit n (omega (arith, fits))
padded_right (suc w) n fits small =
    let power = pow-suc 10 (suc w) in
    let more : suc (suc w) ≡ suc w + 1 = omega arith in
    ap (λ k. padded k n) more ∙ padded_step (suc w) n (omega arith) small ∙ ap (λ t. t ++ alone (48 + n % 10)) (padded_right w (n / 10) (omega (arith, fits, power)) (omega (arith, small)))

length_right : (w n : ℕ) → length (right w n) ≡ w
unfolding right
length_right zero n = refl
length_right (suc w) n = let ih = length_right w (n / 10) in let both = length-append (right w (n / 10)) (alone (48 + n % 10)) in omega (arith, ih, both)

take_front : {X : Type 0} (k : ℕ) (xs ys : List X) → k ≤ length xs → take k (xs ++ ys) ≡ take k xs
take_front zero xs ys within = refl
take_front (suc k) [] ys within = absurd (omega (arith, within))
take_front (suc k) (x ∷ xs) ys within = ap (λ t. x ∷ t) (take_front k xs ys (omega (arith, within)))

-- the last zeros are as many as the number has
fraction_cut : (u n : ℕ) → 0 < n → n < 10 ^ suc u → n < 2 ^ 64 → without_last_zeros (padded (suc u) n) ≡ take (suc u - trailing_zeros u n) (right (suc u) n)
unfolding trailing_zeros right
fraction_cut zero n some fits small =
    fraction_kept 0 n (omega (arith, fits)) small (λ is. absurd (omega (arith, is, fits, some))) ∙ padded_digit n (omega (arith, fits))
fraction_cut (suc u) n some fits small = go (n % 10 == 0) refl (λ z. fraction_cut u (n / 10) (omega (arith, z, some)) (omega (arith, fits, pow-suc 10 (suc u))) (omega (arith, small)))
  where
    more : suc (suc u) ≡ suc u + 1
    more = omega arith

    go : (s : Bool) → (n % 10 == 0) ≡ s → (n % 10 ≡ 0 → without_last_zeros (padded (suc u) (n / 10)) ≡ take (suc u - trailing_zeros u (n / 10)) (right (suc u) (n / 10))) → without_last_zeros (padded (suc (suc u)) n) ≡ take (suc (suc u) - (if s then suc (trailing_zeros u (n / 10)) else 0)) (right (suc u) (n / 10) ++ alone (48 + n % 10))
    go true is ih =
        let z : n % 10 ≡ 0 = eqb-true (n % 10) 0 is in
        let t = trailing_zeros u (n / 10) in
        let len = length_right (suc u) (n / 10) in
        let less : suc u - t ≡ suc (suc u) - suc t = omega arith in
        ap (λ k. without_last_zeros (padded k n)) more ∙ fraction_shorter (suc u) n (omega arith) small z ∙ ih z
        ∙ sym (take_front (suc u - t) (right (suc u) (n / 10)) (alone (48 + n % 10)) (omega (arith, len)))
        ∙ ap (λ k. take k (right (suc u) (n / 10) ++ alone (48 + n % 10))) less
    go false is ih =
        let other = eqb-false (n % 10) 0 is in
        let len = length_right (suc (suc u)) n in
        ap (λ k. without_last_zeros (padded k n)) more
        ∙ fraction_kept (suc u) n (subst (λ k. n < 10 ^ k) more fits) small other
        ∙ ap (λ k. padded k n) (sym more)
        ∙ padded_right (suc u) n fits small
        ∙ sym (take_whole (suc (suc u) - 0) (right (suc (suc u)) n) (omega (arith, len)))

-- ---- nine digits, from the left

places_cut : (k j whole n : ℕ) → k ≤ j → take k (places j whole n) ≡ places k whole n
unfolding places
places_cut zero j whole n within = refl
places_cut (suc k) zero whole n within = absurd (omega (arith, within))
places_cut (suc k) (suc j) whole n within = ap (λ t. (48 + n / (whole / 10)) ∷ t) (places_cut k j (whole / 10) (n % (whole / 10)) (omega (arith, within)))

cons : {x y : ℕ} {xs ys : List ℕ} → x ≡ y → xs ≡ ys → ((48 + x) ∷ xs) ≡ ((48 + y) ∷ ys)
cons e es = ap₂ (λ x xs. (48 + x) ∷ xs) e es

nine : (n : ℕ) → n < 10 ^ 9 → right 9 n ≡ places 9 1_000_000_000 n
unfolding right places
nine n fits =
    let a : n / 10 / 10 / 10 / 10 / 10 / 10 / 10 / 10 % 10 ≡ n / 100000000 = omega (arith, fits) in
    let b : n / 10 / 10 / 10 / 10 / 10 / 10 / 10 % 10 ≡ n % 100000000 / 10000000 = omega (arith, fits) in
    let c : n / 10 / 10 / 10 / 10 / 10 / 10 % 10 ≡ n % 100000000 % 10000000 / 1000000 = omega (arith, fits) in
    let d : n / 10 / 10 / 10 / 10 / 10 % 10 ≡ n % 100000000 % 10000000 % 1000000 / 100000 = omega (arith, fits) in
    let e : n / 10 / 10 / 10 / 10 % 10 ≡ n % 100000000 % 10000000 % 1000000 % 100000 / 10000 = omega (arith, fits) in
    let f : n / 10 / 10 / 10 % 10 ≡ n % 100000000 % 10000000 % 1000000 % 100000 % 10000 / 1000 = omega (arith, fits) in
    let g : n / 10 / 10 % 10 ≡ n % 100000000 % 10000000 % 1000000 % 100000 % 10000 % 1000 / 100 = omega (arith, fits) in
    let h : n / 10 % 10 ≡ n % 100000000 % 10000000 % 1000000 % 100000 % 10000 % 1000 % 100 / 10 = omega (arith, fits) in
    let i : n % 10 ≡ n % 100000000 % 10000000 % 1000000 % 100000 % 10000 % 1000 % 100 % 10 / 1 = omega (arith, fits) in
    cons a (cons b (cons c (cons d (cons e (cons f (cons g (cons h (cons i refl))))))))

-- ---- a fraction

pub fraction_is : (n : ℕ) → n < 10 ^ 9 → fraction_text n ≡ fraction_part None n
fraction_is n fits = go (n == 0) refl
  where
    go : (s : Bool) → (n == 0) ≡ s → (if s then [] else 46 ∷ without_last_zeros (padded 9 n)) ≡ (if s then [] else 46 ∷ places (if s then 0 else 9 - trailing_zeros 8 n) 1_000_000_000 n)
    go true is = refl
    go false is =
        let other = eqb-false n 0 is in
        ap (λ t. 46 ∷ t) (fraction_cut 8 n (omega (arith, other)) (omega (arith, fits)) (omega (arith, fits)) ∙ ap (take (9 - trailing_zeros 8 n)) (nine n fits) ∙ places_cut (9 - trailing_zeros 8 n) 9 1_000_000_000 n (omega arith))
