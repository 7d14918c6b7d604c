-- What is folded out of the numbers of a block, number by number.
use Rattle.std.proofs.Common.{[], List, ap, arith, drop, get_or, length, map, min, refl, subst, suc, zero, ◌+◌, ◌<◌, ◌≡◌, ◌≤◌, ◌∙◌, ◌∷◌, ℕ}
use Rattle.std.proofs.lemmas.List.{drop_more, get_or_default}
use Rattle.std.specs.List.{AllByRecursion}
use Rattle.segment_postings.specs.Blocks.{more_1}
use Rattle.definitions.specs.Blocks.{least_of}
use Rattle.layouts.specs.TermPostings.{id_of}

-- ---- what holds of each

-- what is left of a list decides for all of it
pub record Decides (P : ℕ → Type 0) (xs : List ℕ) (i : ℕ) : Type 0 where
  pub sound : AllByRecursion P (drop i xs) → AllByRecursion P xs
  pub complete : AllByRecursion P xs → AllByRecursion P (drop i xs)

pub each_from : (P : ℕ → Type 0) (xs : List ℕ) (i : ℕ) → i < length xs → AllByRecursion P (drop i xs) → P (get_or xs i 0) × AllByRecursion P (drop (i + 1) xs)
each_from P xs i within all = subst (λ ys. AllByRecursion P ys) (drop_more xs i 0 within) all

pub decides_not : (P : ℕ → Type 0) (xs : List ℕ) (i : ℕ) → i < length xs → (P (get_or xs i 0) → ⊥) → Decides P xs i → AllByRecursion P xs → ⊥
decides_not P xs i within none so_far all = none (each_from P xs i within (so_far.complete all)).0

none_left : (P : ℕ → Type 0) (xs : List ℕ) (i : ℕ) → length xs ≤ i → AllByRecursion P (drop i xs)
none_left P [] i past = go i
  where
    go : (k : ℕ) → AllByRecursion P (drop k [])
    go zero = tt
    go (suc k) = tt
none_left P (x ∷ xs) zero past = absurd (omega (arith, past))
none_left P (x ∷ xs) (suc i) past = none_left P xs i (omega (arith, past))

pub all_decided : (P : ℕ → Type 0) (xs : List ℕ) (i : ℕ) → length xs ≤ i → Decides P xs i → AllByRecursion P xs
all_decided P xs i past so_far = so_far.sound (none_left P xs i past)

pub all_at : (P : ℕ → Type 0) (xs : List ℕ) → AllByRecursion P xs → (i : ℕ) → i < length xs → P (get_or xs i 0)
all_at P [] all i within = absurd (omega (arith, within))
all_at P (x ∷ xs) all zero within = all.0
all_at P (x ∷ xs) all (suc i) within = all_at P xs all.1 i (omega (arith, within))

-- each number plus 1
pub more_at : (P : ℕ → Type 0) (xs : List ℕ) → AllByRecursion P (more_1 xs) → AllByRecursion (λ n. P (n + 1)) xs
more_at P [] all = tt
more_at P (x ∷ xs) all = (all.0, more_at P xs all.1)

pub at_more : (P : ℕ → Type 0) (xs : List ℕ) → AllByRecursion (λ n. P (n + 1)) xs → AllByRecursion P (more_1 xs)
at_more P [] all = tt
at_more P (x ∷ xs) all = (all.0, at_more P xs all.1)

-- ---- sums and the greatest

pub nothing_left : (xs : List ℕ) (i : ℕ) → length xs ≤ i → drop i xs ≡ []
nothing_left [] zero past = refl
nothing_left [] (suc i) past = refl
nothing_left (x ∷ xs) zero past = absurd (omega (arith, past))
nothing_left (x ∷ xs) (suc i) past = nothing_left xs i (omega (arith, past))

-- ---- the least

-- the least of a number and others
abbrev pub lowest : ℕ → List ℕ → ℕ
lowest m [] = m
lowest m (x ∷ xs) = lowest (min x m) xs

lowest_is : (m : ℕ) (xs : List ℕ) → lowest m xs ≡ least_of (m ∷ xs)
lowest_is m [] = refl
lowest_is m (x ∷ []) = omega arith
lowest_is m (x ∷ y ∷ ys) = (let ih : lowest (min x m) (y ∷ ys) ≡ min (min x m) (least_of (y ∷ ys)) = lowest_is (min x m) (y ∷ ys) in let same : min (min x m) (least_of (y ∷ ys)) ≡ min m (min x (least_of (y ∷ ys))) = omega arith in ih ∙ same)

pub lowest_begins : (xs : List ℕ) → 0 < length xs → lowest (get_or xs 0 0) xs ≡ least_of xs
lowest_begins [] some = absurd (omega (arith, some))
lowest_begins (x ∷ xs) some = (let same : min x x ≡ x = omega arith in ap (λ k. lowest k xs) same ∙ lowest_is x xs)

pub first_id : (ids docs : List ℕ) → 0 < length docs → get_or docs 0 0 < length ids → get_or ids (get_or docs 0 0) 0 ≡ get_or (map (id_of ids) docs) 0 0
first_id ids [] some within = absurd (omega (arith, some))
first_id ids (d ∷ ds) some within = get_or_default ids d 0 1 within

-- documents of a field without lengths
pub no_ids : (docs : List ℕ) → 0 < length docs → least_of (map (id_of []) docs) ≡ 1
no_ids [] some = absurd (omega (arith, some))
no_ids (d ∷ []) some = refl
no_ids (d ∷ e ∷ ds) some = (let ih : least_of (map (id_of []) (e ∷ ds)) ≡ 1 = no_ids (e ∷ ds) (omega arith) in omega (arith, ih))
