-- Positions by their differences.
use Rattle.std.proofs.Common.{[], List, ap, ap₂, arith, length, length-append, map, refl, sym, ◌++◌, ◌+◌, ◌-◌, ◌≡◌, ◌≤◌, ◌∙◌, ◌∷◌, ℕ, max, sum}
use Rattle.std.proofs.lemmas.List.Sums.{sum_by-cons}
use Rattle.std.proofs.lemmas.List.{length-map}
use Rattle.docsets.specs.Entries.{highest}
use Rattle.docsets.proofs.EntryLaws.{highest_moved}
use Rattle.layouts.specs.Positions.{differences}
use Rattle.codes.proofs.AppendedPlaces.{length-places}
use Rattle.codes.specs.PositionPlaces.{places}

pub places_moved : (before offset : ℕ) (xs : List ℕ) → map (λ p. p + offset) (places before xs) ≡ places (before + offset) xs
places_moved before offset [] = refl
places_moved before offset (x ∷ xs) =
    let here : before + x + offset ≡ before + offset + x = omega arith in
    ap₂ (λ p ps. p ∷ ps) here (places_moved (before + x) offset xs ∙ ap (λ k. places k xs) here)

-- a sum is the highest of the positions
sum_highest : (before : ℕ) (xs : List ℕ) → before + sum xs ≤ max before (highest (places before xs))
sum_highest before [] = omega arith
sum_highest before (x ∷ xs) = (let ih = sum_highest (before + x) xs in let total = sum_by-cons (λ y. y) x xs in omega (arith, ih, total))

all_moved : (offset : ℕ) (numbers : List ℕ) → places offset numbers ≡ map (λ p. p + offset) (places 0 numbers)
all_moved offset numbers = (let zero_on : offset ≡ 0 + offset = omega arith in ap (λ k. places k numbers) zero_on ∙ sym (places_moved 0 offset numbers))

pub sums_fit : (offset : ℕ) (numbers : List ℕ) → offset ≤ 4294967295 → highest (places 0 numbers) + offset ≤ 4294967295 → offset + sum numbers ≤ 4294967295
sums_fit offset numbers small fits =
    let most = sum_highest offset numbers in
    let same = ap highest (all_moved offset numbers) in
    let moved = highest_moved offset (places 0 numbers) in
    omega (arith, most, same, moved, fits, small)

pub put_moved : (offset : ℕ) (numbers held out : List ℕ) → out ≡ held ++ places offset numbers → out ≡ held ++ map (λ p. p + offset) (places 0 numbers)
put_moved offset numbers held out is = is ∙ ap (λ ps. held ++ ps) (all_moved offset numbers)

-- there are as many positions as numbers
pub as_many : (offset : ℕ) (numbers held : List ℕ) → length (held ++ map (λ p. p + offset) (places 0 numbers)) ≡ length (held ++ numbers)
as_many offset numbers held =
    let ps = places 0 numbers in
    omega (arith, length-append held (map (λ p. p + offset) ps), length-append held numbers, length-map ps (λ p. p + offset), length-places 0 numbers)

-- positions that differences add up to give these again
pub differences_of_places : (before : ℕ) (xs : List ℕ) → differences before (places before xs) ≡ xs
differences_of_places before [] = refl
differences_of_places before (x ∷ xs) =
    let here : before + x - before ≡ x = omega arith in
    ap₂ (λ d ds. d ∷ ds) here (differences_of_places (before + x) xs)
