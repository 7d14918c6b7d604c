-- Entries with the positions of their documents.
use Rattle.std.proofs.Common.{[], List, ap, ap₂, arith, drop, get_or, length, length-append, length-take, map, refl, subst, suc, sum, take, zero, ◌++◌, ◌+◌, ◌-◌, ◌≡◌, ◌≤◌, ◌∙◌, ◌∷◌, ℕ}
use Rattle.std.proofs.lemmas.List.{get_or-drop}
use Rattle.std.proofs.lemmas.List.Sums.{sum_by-cons}
use Rattle.std.specs.List.{AllByRecursion}
use Rattle.definitions.specs.Scoring.{DontFall}
use Rattle.layouts.specs.Positions.{differences, position_numbers}
use Rattle.docsets.specs.Entries.{AreSingle, most_positions}
use Rattle.codes.proofs.AppendedPlaces.{length-places}
use Rattle.codes.specs.PositionPlaces.{places}
use Rattle.codes.proofs.PositionNumbers.{length-differences}
use Rattle.segment_postings.specs.TermEntries.{HasPositions, IsPlaced, entries_from, entries_of, term_entries}
use Rattle.segment_postings.proofs.Lists.{behind, first_of}

-- positions by their differences
places_back : (before p : ℕ) (ps : List ℕ) → before ≤ p → DontFall (p ∷ ps) → places before (differences before (p ∷ ps)) ≡ p ∷ ps
places_back before p [] l falls = (let here : before + (p - before) ≡ p = omega (arith, l) in ap (λ x. x ∷ []) here)
places_back before p (q ∷ qs) l falls =
    let here : before + (p - before) ≡ p = omega (arith, l) in
    ap₂ (λ x xs. x ∷ xs) here (ap (λ k. places k (differences p (q ∷ qs))) here ∙ places_back p q qs falls.0 falls.1)

pub places_are : (ps : List ℕ) → DontFall ps → places 0 (differences 0 ps) ≡ ps
places_are [] falls = refl
places_are (p ∷ ps) falls = places_back 0 p ps (omega arith) falls

pub entries_placed : (docs : List ℕ) (lists : List (List ℕ)) → length (map length lists) ≡ length docs → AllByRecursion IsPlaced lists → entries_of docs (map length lists) (position_numbers lists) ≡ term_entries docs (map length lists) lists
entries_placed [] lists long placed = refl
entries_placed (d ∷ ds) [] long placed = absurd (omega (arith, long))
entries_placed (d ∷ ds) (ps ∷ pss) long placed =
    let numbers = differences 0 ps ++ position_numbers pss in
    let taken : take (length ps) numbers ≡ differences 0 ps = first_of (length ps) (differences 0 ps) (position_numbers pss) (length-differences 0 ps) in
    let left : drop (length ps) numbers ≡ position_numbers pss = behind (length ps) (differences 0 ps) (position_numbers pss) (length-differences 0 ps) in
    let here : places 0 (take (length ps) numbers) ≡ ps = ap (places 0) taken ∙ places_are ps placed.0.0 in
    ap₂ (λ xs es. record { doc = d; score = 0; count = length ps; positions = xs ∷ [] } ∷ es) here (ap (λ ns. entries_of ds (map length pss) ns) left ∙ entries_placed ds pss (omega (arith, long)) placed.1)

pub single_entries : (docs counts : List ℕ) (lists : List (List ℕ)) → AllByRecursion IsPlaced lists → AreSingle (term_entries docs counts lists)
single_entries [] counts lists placed = tt
single_entries (d ∷ ds) counts [] placed = (refl, tt, omega arith, single_entries ds (drop 1 counts) [] tt)
single_entries (d ∷ ds) counts (ps ∷ pss) placed = (refl, placed.0.0, placed.0.1, single_entries ds (drop 1 counts) pss placed.1)

pub count_of_numbers : (lists : List (List ℕ)) → length (position_numbers lists) ≡ sum (map length lists)
count_of_numbers [] = refl
count_of_numbers (ps ∷ pss) =
    let ih = count_of_numbers pss in
    let long = length-differences 0 ps in
    let total = sum_by-cons (λ x. x) (length ps) (map length pss) in
    omega (arith, ih, long, total, length-append (differences 0 ps) (position_numbers pss))

-- none has more positions than a bound of the counts
pub most_counted : (docs counts numbers : List ℕ) (most : ℕ) → ((i : ℕ) → get_or counts i 0 ≤ most) → most_positions (entries_of docs counts numbers) ≤ most
most_counted [] counts numbers most few = omega arith
most_counted (d ∷ ds) counts numbers most few =
    let n = get_or counts 0 0 in
    let rest = most_counted ds (drop 1 counts) (drop n numbers) most (λ i. (let at = get_or-drop 1 counts i 0 in let small = few (1 + i) in omega (arith, at, small))) in
    let here = few 0 in
    let long = length-places 0 (take n numbers) in
    omega (arith, rest, here, long, length-take n numbers)

-- no number is above the sum
pub below_sum : (xs : List ℕ) (i : ℕ) → get_or xs i 0 ≤ sum xs
below_sum [] i = omega arith
below_sum (x ∷ xs) zero = (let total = sum_by-cons (λ y. y) x xs in omega (arith, total))
below_sum (x ∷ xs) (suc i) = (let ih = below_sum xs i in let total = sum_by-cons (λ y. y) x xs in omega (arith, ih, total))

-- ---- as they are opened

pub opened_entries : (offset : ℕ) (all all_counts numbers docs counts : List ℕ) (lists : List (List ℕ)) → all ≡ docs → all_counts ≡ counts → offset ≡ 0 → HasPositions counts lists numbers → length counts ≡ length docs → entries_from 0 offset all all_counts numbers ≡ term_entries docs counts lists
opened_entries offset all all_counts numbers docs counts lists docs_are counts_are begins has same =
    let start : offset + sum (take 0 all_counts) ≡ 0 = omega (arith, begins) in
    let count = ap length has.counted in
    ap₂ (λ xs ys. entries_of xs ys (drop (offset + sum (take 0 all_counts)) numbers)) docs_are counts_are
    ∙ (ap (λ k. entries_of docs counts (drop k numbers)) start
    ∙ (ap (λ ns. entries_of docs counts ns) has.numbers_are
    ∙ subst (λ cs. entries_of docs cs (position_numbers lists) ≡ term_entries docs cs lists) has.counted (entries_placed docs lists (omega (arith, count, same)) has.placed)))

-- there are as many positions as the counts say
pub all_positions : (counts numbers : List ℕ) (lists : List (List ℕ)) → HasPositions counts lists numbers → length numbers ≡ sum counts
all_positions counts numbers lists has = ap length has.numbers_are ∙ count_of_numbers lists ∙ ap sum has.counted
