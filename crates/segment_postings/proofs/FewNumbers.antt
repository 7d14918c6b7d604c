-- Fewer than 128 positions, bounded by one sum.
use Rattle.std.proofs.Common.{[], List, ap, append-nil, arith, length, subst, sum, sym, take, ◌++◌, ◌+◌, ◌<◌, ◌≡◌, ◌≤◌, ◌∙◌, ◌∷◌, ◌^◌, ℕ, true}
use Rattle.std.proofs.Math.Logic.{∥∥₁_elim}
use Rattle.std.proofs.lemmas.List.Sums.{sum_by-cons, sum_by-take-drop}
use Rattle.std.specs.Coded.{Coded-set, coded_ℕ}
use Rattle.std.specs.List.{AllByRecursion}
use Rattle.common.proofs.DigitNumbers.{AreDigits}
use Rattle.common.proofs.VintDigits.{vint_low}
use Rattle.definitions.specs.NumberCodes.{AreBytes, vint_bytes}
use Rattle.layouts.specs.VintBlocks.{numbers_bytes}
use Rattle.codes.proofs.VintListLaws.{numbers_stood}
use Rattle.segment_postings.proofs.BlockChecks.{below_all}
use Rattle.segment_postings.proofs.BoundedNumbers.{bounded_together}
use Rattle.segment_postings.proofs.OneTerm.{same_postings}
use Rattle.segment_postings.specs.Blocks.{HasCounts, more_1}
use Rattle.segment_postings.specs.Placed.{HasFew, HasNumbers, LastPositionsFit}
use Rattle.segment_postings.specs.Reading.{HasPostings}

-- no greater sum
sum_least : (xs : List ℕ) → sum xs ≤ sum (more_1 xs)
sum_least [] = omega arith
sum_least (x ∷ xs) =
    let less = sum_least xs in
    let first : sum (x ∷ xs) ≡ x + sum xs = sum_by-cons (λ y. y) x xs in
    let more : sum ((x + 1) ∷ more_1 xs) ≡ x + 1 + sum (more_1 xs) = sum_by-cons (λ y. y) (x + 1) (more_1 xs) in
    omega (arith, less, first, more)

each_small : (m : ℕ) (xs : List ℕ) → sum xs < m → AllByRecursion (λ x. x < m) xs
each_small m [] few = tt
each_small m (x ∷ xs) few =
    let first : sum (x ∷ xs) ≡ x + sum xs = sum_by-cons (λ y. y) x xs in
    (omega (arith, first, few), each_small m xs (omega (arith, first, few)))

-- no block, and numbers that were read as counts are
pub few_stand : (total s : ℕ) (rest : List ℕ) → AreBytes rest → total < 128 → s < 2 ^ 31 → HasCounts total rest s → HasFew total (128 ∷ rest)
unfolding vint_bytes
few_stand total s rest digits short small h =
    let stood = numbers_stood total rest h.numbers [] digits h.taken in
    let many = stood.0 in
    let is = h.total_is in
    let least = sum_least h.numbers in
    let few : sum h.numbers < 2 ^ 31 = omega (arith, is, least, small) in
    record {
      numbers = h.numbers;
      stand = record {
        widths = [];
        packed = rest;
        bytes_are = ap (λ bs. bs ++ rest) (sym (vint_low 0 (omega arith)));
        blocks = (omega (arith, many, short), stood.2 ∙ append-nil (numbers_bytes h.numbers));
        small = below_all (2 ^ 31) h.numbers (omega arith) (each_small (2 ^ 31) h.numbers few);
      };
      many = many;
      sum_fits = few;
    }

pub whole_bounded : (counts numbers : List ℕ) (total : ℕ) → total ≡ sum counts → sum (take total numbers) < 2 ^ 31 → LastPositionsFit counts numbers
whole_bounded counts numbers total is few = bounded_together counts numbers (subst (λ k. sum (take k numbers) < 2 ^ 31) is few)

pub few_numbers : (counts : List ℕ) (total : ℕ) (bytes : List ℕ) → total ≡ sum counts → HasFew total bytes → HasNumbers counts bytes
few_numbers counts total bytes is h =
    let both = sum_by-take-drop (λ x. x) h.numbers total in
    let few = h.sum_fits in
    record {
      numbers = h.numbers;
      stand = h.stand;
      many = h.many ∙ is;
      bounded = whole_bounded counts h.numbers total is (omega (arith, both, few));
    }

-- the sum of the counts, whichever are read
pub total_known : (postings : List ℕ) (doc_freq total : ℕ) (docs counts : List ℕ) → length postings < 2 ^ 64 → AreDigits 256 postings → ∥ ((ds cs : List ℕ) × HasPostings true true doc_freq postings ds cs × (total ≡ sum cs)) ∥₁ → HasPostings true true doc_freq postings docs counts → total ≡ sum counts
total_known postings doc_freq total docs counts short digits known h = ∥∥₁_elim known (Coded-set coded_ℕ _ _) (λ k. k.3 ∙ ap sum (same_postings true true doc_freq postings k.0 k.1 docs counts short digits k.2 h).counts_are)
