-- English words: their letters and regions, as the code meets them.
use Rattle.std.proofs.Common.{[], ◌&&◌, ◌++◌, ◌+◌, ◌<◌, ◌∙◌, ◌∷◌, ◌≡◌, ◌≤◌, Bool, List, add_assoc, ap, ap₂, append-nil, append_assoc, arith, drop, false, get_or, length, not, refl, sym, true, ℕ}
use Rattle.std.proofs.lemmas.Bool.{cond-false, cond-true}
use Rattle.std.proofs.lemmas.List.{drop_all, drop_more}
use Rattle.english_stems.specs.Letters.{is_vowel, marked, marked_letter}
use Rattle.english_stems.specs.Regions.{region}

-- ---- the y that is no vowel

letter-marked : (front cs : List ℕ) (behind : Bool) (i c : ℕ) → i < length cs → c ≡ get_or cs i c → (front ++ marked_letter behind c ∷ []) ++ marked (is_vowel (marked_letter behind c)) (drop (i + 1) cs) ≡ front ++ marked behind (drop i cs)
unfolding marked
letter-marked front cs behind i c inside read =
    append_assoc front (marked_letter behind c ∷ []) (marked (is_vowel (marked_letter behind c)) (drop (i + 1) cs))
    ∙ ap (λ x. front ++ (marked_letter behind x ∷ marked (is_vowel (marked_letter behind x)) (drop (i + 1) cs))) read
    ∙ ap (λ rest. front ++ marked behind rest) (sym (drop_more cs i c inside))

-- one letter more
pub marked-more : (front items cs : List ℕ) (behind vowel : Bool) (i c letter : ℕ) → i < length cs → c ≡ get_or cs i c → letter ≡ marked_letter behind c → vowel ≡ is_vowel letter → items ≡ front ++ letter ∷ [] → items ++ marked vowel (drop (i + 1) cs) ≡ front ++ marked behind (drop i cs)
marked-more front items cs behind vowel i c letter inside read is vowel_is items_are =
    ap₂ (λ xs v. xs ++ marked v (drop (i + 1) cs)) items_are vowel_is
    ∙ ap (λ x. (front ++ x ∷ []) ++ marked (is_vowel x) (drop (i + 1) cs)) is
    ∙ letter-marked front cs behind i c inside read

-- and no more
pub marked-end : (front cs : List ℕ) (behind : Bool) (i : ℕ) → length cs ≤ i → front ++ marked behind (drop i cs) ≡ front
unfolding marked
marked-end front cs behind i past = ap (λ rest. front ++ marked behind rest) (drop_all i cs past) ∙ append-nil front

-- ---- regions

region-step : (w : List ℕ) (behind : Bool) (i c : ℕ) → i < length w → c ≡ get_or w i c → region behind (drop i w) ≡ region behind (c ∷ drop (i + 1) w)
region-step w behind i c inside read = ap (region behind) (drop_more w i c inside) ∙ ap (λ x. region behind (x ∷ drop (i + 1) w)) (sym read)

-- a letter that begins no region
goes : (w : List ℕ) (behind vowel : Bool) (i c : ℕ) → i < length w → c ≡ get_or w i c → vowel ≡ is_vowel c → (behind && not (is_vowel c)) ≡ false → i + 1 + region vowel (drop (i + 1) w) ≡ i + region behind (drop i w)
unfolding region
goes w behind vowel i c inside read is stays =
    add_assoc i 1 (region vowel (drop (i + 1) w))
    ∙ ap (λ v. i + (1 + region v (drop (i + 1) w))) is
    ∙ ap (λ n. i + n) (sym (region-step w behind i c inside read ∙ cond-false _ _ _ stays))

not_at_vowel : (behind vowel : Bool) → vowel ≡ true → (behind && not vowel) ≡ false
not_at_vowel true vowel h = ap not h
not_at_vowel false vowel h = refl

-- a vowel, or a letter that is behind none
pub region-vowel : (w : List ℕ) (behind vowel : Bool) (i c : ℕ) → i < length w → c ≡ get_or w i c → vowel ≡ is_vowel c → vowel ≡ true → i + 1 + region vowel (drop (i + 1) w) ≡ i + region behind (drop i w)
region-vowel w behind vowel i c inside read is at_vowel = goes w behind vowel i c inside read is (not_at_vowel behind (is_vowel c) (sym is ∙ at_vowel))

pub region-other : (w : List ℕ) (behind vowel : Bool) (i c : ℕ) → i < length w → c ≡ get_or w i c → vowel ≡ is_vowel c → behind ≡ false → i + 1 + region vowel (drop (i + 1) w) ≡ i + region behind (drop i w)
region-other w behind vowel i c inside read is first = goes w behind vowel i c inside read is (ap (λ b. b && not (is_vowel c)) first)

-- the region begins behind this letter
pub region-found : (w : List ℕ) (behind vowel : Bool) (i c : ℕ) → i < length w → c ≡ get_or w i c → vowel ≡ is_vowel c → behind ≡ true → vowel ≡ false → i + 1 ≡ i + region behind (drop i w)
unfolding region
region-found w behind vowel i c inside read is second other =
    let found : (behind && not (is_vowel c)) ≡ true = ap₂ (λ a b. a && not b) second (sym is ∙ other) in
    ap (λ n. i + n) (sym (region-step w behind i c inside read ∙ cond-true _ _ _ found))

-- the word ends before it
pub region-end : (w : List ℕ) (behind : Bool) (i : ℕ) → length w ≤ i → i ≤ length w → length w ≡ i + region behind (drop i w)
unfolding region
region-end w behind i past inside =
    let none : region behind (drop i w) ≡ 0 = ap (region behind) (drop_all i w past) in
    omega (arith, none)
