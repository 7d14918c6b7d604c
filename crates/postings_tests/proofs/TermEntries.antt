-- Entries of a term, and the positions of its documents.
use Rattle.std.proofs.Common.{[], List, ap₂, arith, drop, get_or, length, refl, sum, sym, take, ◌++◌, ◌+◌, ◌<◌, ◌≡◌, ◌≤◌, ◌∙◌, ◌∷◌, ◌^◌, ℕ}
use Rattle.std.proofs.lemmas.Grind.{flat_map-append}
use Rattle.std.proofs.lemmas.List.{append-nil, map-append}
use Rattle.std.proofs.lemmas.List.Sums.{sum_by-cons, sum_by-take-drop}
use Rattle.std.specs.List.{AllByRecursion}
use Rattle.definitions.specs.Scoring.{DontFall}
use Rattle.layouts.specs.Positions.{differences, position_numbers}
use Rattle.docsets.specs.Entries.{from, highest}
use Rattle.docsets.proofs.EntryLaws.{from-out}
use Rattle.codes.proofs.AppendedPlaces.{length-places}
use Rattle.codes.specs.PositionPlaces.{places}
use Rattle.definitions.proofs.Lists.{all_append}
use Rattle.segment_postings.proofs.PositionLists.{differences_of_places as differences_of}
use Rattle.segment_postings.specs.TermEntries.{HasPositions, IsPlaced, entries_of}

-- none of the entries comes later where all are below
pub none_from : (t : ℕ) (docs counts numbers : List ℕ) → AllByRecursion (λ d. d < t) docs → from t (entries_of docs counts numbers) ≡ []
none_from t [] counts numbers all = refl
none_from t (d ∷ ds) counts numbers all = from-out t _ (entries_of ds (drop 1 counts) (drop (get_or counts 0 0) numbers)) all.0 ∙ none_from t ds (drop 1 counts) (drop (get_or counts 0 0) numbers) all.1

-- ---- positions by their differences

positions_dont_fall : (b : ℕ) (xs : List ℕ) → DontFall (places b xs)
positions_dont_fall b [] = tt
positions_dont_fall b (x ∷ []) = tt
positions_dont_fall b (x ∷ y ∷ xs) = (omega arith, positions_dont_fall (b + x) (y ∷ xs))

positions_high : (b : ℕ) (xs : List ℕ) → highest (places b xs) ≤ b + sum xs
positions_high b [] = omega arith
positions_high b (x ∷ xs) = (let ih = positions_high (b + x) xs in let total = sum_by-cons (λ y. y) x xs in omega (arith, ih, total))

pub all_below_and : (u doc : ℕ) (docs : List ℕ) → AllByRecursion (λ d. d < u) docs → doc < u → AllByRecursion (λ d. d < u) (docs ++ doc ∷ [])
all_below_and u doc [] all one = (one, tt)
all_below_and u doc (d ∷ ds) all one = (all.0, all_below_and u doc ds all.1 one)

-- no positions of no documents
pub no_documents : HasPositions [] [] []
no_documents = record { counted = refl; placed = tt; numbers_are = refl }

-- one document more, whose positions are known by their differences
pub one_more : (counts : List ℕ) (lists : List (List ℕ)) (numbers xs : List ℕ) (count : ℕ) → HasPositions counts lists numbers → length xs ≡ count → sum xs < 2 ^ 31 → HasPositions (counts ++ count ∷ []) (lists ++ places 0 xs ∷ []) (numbers ++ xs)
one_more counts lists numbers xs count has long small =
    let high = positions_high 0 xs in
    record {
      counted = map-append length lists (places 0 xs ∷ []) ∙ ap₂ (λ ns n. ns ++ n ∷ []) has.counted (length-places 0 xs ∙ long);
      placed = all_append IsPlaced lists (places 0 xs ∷ []) has.placed ((positions_dont_fall 0 xs, omega (arith, high, small)), tt);
      numbers_are = ap₂ (λ ns ms. ns ++ ms) has.numbers_are (sym-of xs) ∙ sym (flat_map-append (differences 0) lists (places 0 xs ∷ []));
    }
  where
    sym-of : (ys : List ℕ) → ys ≡ position_numbers (places 0 ys ∷ [])
    sym-of ys = sym (append-nil (differences 0 (places 0 ys)) ∙ differences_of 0 ys)

-- what is taken of a list has no greater sum
pub sum_taken : (n : ℕ) (xs : List ℕ) → sum (take n xs) ≤ sum xs
sum_taken n xs = (let all = sum_by-take-drop (λ x. x) xs n in omega (arith, all))
