-- Laws of how often positions stand at places that are moved on.
use Rattle.std.proofs.Common.{[], List, ap, arith, drop, false, filter, get_or, if◌then◌else◌, length, refl, subst, suc, sym, true, zero, ◌+◌, ◌<◌, ◌==◌, ◌∙◌, ◌∷◌, ◌||◌, ◌≡◌, ◌≤◌, ℕ}
use Rattle.std.proofs.lemmas.Bool.Decides.{nat_tests}
use Rattle.std.proofs.lemmas.List.{drop_all, drop_more}
use Rattle.phrases.specs.Places.{Ascends, has}
use Rattle.phrases.specs.PrefixEntries.{continued}
use Rattle.phrases.proofs.MergeLaws.{Ascends-step, by_order, has-low, filter-ascending}
use Rattle.phrases.specs.MergeLaws.{IsStep}

continued-none : (moved : ℕ) (places : List ℕ) → continued moved places [] ≡ 0
continued-none moved [] = refl
continued-none moved (p ∷ ps) = continued-none moved ps

-- a place before all positions left
pub count-left : (moved i j : ℕ) (places positions : List ℕ) → i < length places → j < length positions → Ascends 0 (drop j positions) → get_or places i 0 + moved < get_or positions j 0 → continued moved (drop i places) (drop j positions) ≡ continued moved (drop (i + 1) places) (drop j positions)
count-left moved i j places positions li lj a l =
    let rises : Ascends (get_or positions j 0) (get_or positions j 0 ∷ drop (j + 1) positions) = (omega arith, (Ascends-step 0 j positions lj a).1) in
    let out = has-low (get_or positions j 0) (get_or places i 0 + moved) (drop j positions) (subst (Ascends (get_or positions j 0)) (sym (drop_more positions j 0 lj)) rises) l in
    ap (λ xs. continued moved xs (drop j positions)) (drop_more places i 0 li)
    ∙ ap (λ b. length (if b then get_or places i 0 ∷ filter (λ x. has (drop j positions) (x + moved)) (drop (i + 1) places) else filter (λ x. has (drop j positions) (x + moved)) (drop (i + 1) places))) out

-- a position before all places left
pub count-right : (moved i j : ℕ) (places positions : List ℕ) → i < length places → j < length positions → Ascends 0 (drop i places) → get_or positions j 0 < get_or places i 0 + moved → continued moved (drop i places) (drop j positions) ≡ continued moved (drop i places) (drop (j + 1) positions)
count-right moved i j places positions li lj r l =
    let rises : Ascends (get_or places i 0) (get_or places i 0 ∷ drop (i + 1) places) = (omega arith, (Ascends-step 0 i places li r).1) in
    ap (continued moved (drop i places)) (drop_more positions j 0 lj)
    ∙ ap length (filter-ascending (λ x. has (get_or positions j 0 ∷ drop (j + 1) positions) (x + moved)) (λ x. has (drop (j + 1) positions) (x + moved)) (get_or places i 0) (drop i places) (subst (Ascends (get_or places i 0)) (sym (drop_more places i 0 li)) rises)
    (λ x b. let apart : (get_or positions j 0 == x + moved) ≡ false = grind (arith, nat_tests, l, b) in ap (λ t. t || has (drop (j + 1) positions) (x + moved)) apart))

-- a place where a position stands
pub count-both : (moved i j : ℕ) (places positions : List ℕ) → i < length places → j < length positions → get_or places i 0 + moved ≡ get_or positions j 0 → continued moved (drop i places) (drop j positions) ≡ suc (continued moved (drop (i + 1) places) (drop j positions))
count-both moved i j places positions li lj e =
    let here : (get_or positions j 0 == get_or places i 0 + moved) ≡ true = grind (arith, nat_tests, e) in
    let found : has (drop j positions) (get_or places i 0 + moved) ≡ true = ap (λ ps. has ps (get_or places i 0 + moved)) (drop_more positions j 0 lj) ∙ ap (λ b. b || has (drop (j + 1) positions) (get_or places i 0 + moved)) here in
    ap (λ xs. continued moved xs (drop j positions)) (drop_more places i 0 li)
    ∙ ap (λ b. length (if b then get_or places i 0 ∷ filter (λ x. has (drop j positions) (x + moved)) (drop (i + 1) places) else filter (λ x. has (drop j positions) (x + moved)) (drop (i + 1) places))) found

pub count-over : (moved i j : ℕ) (places positions : List ℕ) → length positions ≤ j → continued moved (drop i places) (drop j positions) ≡ 0
count-over moved i j places positions l = ap (continued moved (drop i places)) (drop_all j positions l) ∙ continued-none moved (drop i places)

-- what is counted and what is left to count are the same after a step
pub count-step : (moved i j kept passed skipped : ℕ) (places positions : List ℕ) → i < length places → j < length positions → Ascends 0 (drop i places) → Ascends 0 (drop j positions) → IsStep (get_or places i 0 + moved) (get_or positions j 0) kept passed skipped → kept + continued moved (drop (i + passed) places) (drop (j + skipped) positions) ≡ continued moved (drop i places) (drop j positions)
count-step moved i j kept passed skipped places positions li lj ascends further step =
    by_order (get_or places i 0 + moved) (get_or positions j 0) (kept + continued moved (drop (i + passed) places) (drop (j + skipped) positions) ≡ continued moved (drop i places) (drop j positions))
    (λ less. (let s = step.less less in
    let left_on : i + passed ≡ i + 1 = omega (arith, s.1) in
    let right_on : j + skipped ≡ j = omega (arith, s.2) in
    let is = ap (λ m. continued moved (drop m places) (drop (j + skipped) positions)) left_on in
    let on = ap (λ m. continued moved (drop (i + 1) places) (drop m positions)) right_on in
    let left = count-left moved i j places positions li lj further less in
    omega (arith, s.0, is, on, left)))
    (λ both. (let s = step.same both in
    let left_on : i + passed ≡ i + 1 = omega (arith, s.1) in
    let right_on : j + skipped ≡ j = omega (arith, s.2) in
    let is = ap (λ m. continued moved (drop m places) (drop (j + skipped) positions)) left_on in
    let on = ap (λ m. continued moved (drop (i + 1) places) (drop m positions)) right_on in
    let left = count-both moved i j places positions li lj both in
    omega (arith, s.0, is, on, left)))
    (λ more. (let s = step.more more in
    let left_on : i + passed ≡ i = omega (arith, s.1) in
    let right_on : j + skipped ≡ j + 1 = omega (arith, s.2) in
    let is = ap (λ m. continued moved (drop m places) (drop (j + skipped) positions)) left_on in
    let on = ap (λ m. continued moved (drop i places) (drop m positions)) right_on in
    let left = count-right moved i j places positions li lj ascends more in
    omega (arith, s.0, is, on, left)))

-- no more than there are places
pub continued-few : (moved : ℕ) (places positions : List ℕ) → continued moved places positions ≤ length places
continued-few moved [] positions = omega arith
continued-few moved (p ∷ ps) positions =
    let ih = continued-few moved ps positions in
    elim (has positions (p + moved)) as (λ b. length (if b then p ∷ filter (λ x. has positions (x + moved)) ps else filter (λ x. has positions (x + moved)) ps) ≤ length (p ∷ ps)) [
      | true ↦ (let goal : length (p ∷ filter (λ x. has positions (x + moved)) ps) ≤ length (p ∷ ps) = omega (arith, ih) in goal)
      | false ↦ (let goal : length (filter (λ x. has positions (x + moved)) ps) ≤ length (p ∷ ps) = omega (arith, ih) in goal)
    ]

-- places before all positions left count for nothing
pub count-passed : (moved i j n : ℕ) (places positions : List ℕ) → i + n ≤ length places → j < length positions → Ascends 0 (drop j positions) → ((k : ℕ) → i ≤ k → k < i + n → get_or places k 0 + moved < get_or positions j 0) → continued moved (drop (i + n) places) (drop j positions) ≡ continued moved (drop i places) (drop j positions)
count-passed moved i j zero places positions li lj a below = ap (λ m. continued moved (drop m places) (drop j positions)) (let e : i + 0 ≡ i = omega arith in e)
count-passed moved i j (suc n) places positions li lj a below =
    let here = count-left moved (i + n) j places positions (omega (arith, li)) lj a (below (i + n) (omega arith) (omega arith)) in
    let rest = count-passed moved i j n places positions (omega (arith, li)) lj a (λ k f t. below k f (omega (arith, t))) in
    let next = ap (λ m. continued moved (drop m places) (drop j positions)) (let e : i + suc n ≡ (i + n) + 1 = omega arith in e) in
    next ∙ (sym here ∙ rest)

-- what is left of ascending positions ascends
pub ascends-drop : (low n : ℕ) (ps : List ℕ) → Ascends low ps → Ascends 0 (drop n ps)
ascends-drop low n [] a = subst (Ascends 0) (sym (drop_all n [] (omega arith))) tt
ascends-drop low zero (p ∷ ps) a = (omega arith, a.1)
ascends-drop low (suc n) (p ∷ ps) a = ascends-drop p n ps a.1
