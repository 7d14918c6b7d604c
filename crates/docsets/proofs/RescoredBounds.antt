-- Bounds of entries whose scores are changed, and moves of cursors over them.
use Rattle.std.proofs.Common.{[], ◌*◌, ◌+◌, ◌<◌, ◌∙◌, ◌∷◌, ◌≡◌, ◌≤◌, List, ap, arith, drop, false, refl, subst, suc, sym, zero, ℕ, ℤ}
use Rattle.std.specs.Prelude.{int_lt, pos, ◌≤ℤ◌}
use Rattle.std.specs.List.{AllByRecursion}
use Rattle.std.proofs.Math.Nat.{mul-le-mul_left}
use Rattle.std.proofs.lemmas.Int.{ints}
use Rattle.std.proofs.lemmas.List.{drop-drop}
use Rattle.definitions.specs.Postings.{terminated}
use Rattle.definitions.specs.Scoring.{max_score}
use Rattle.docsets.proofs.BoundLaws.{passes_none}
use Rattle.docsets.proofs.EntryLaws.{IsRest-from, Rising-drop, from-out}
use Rattle.docsets.proofs.ScoredEntryLaws.{drop-rescored, first-rescored, from-rescored}
use Rattle.docsets.specs.Bounds.{Covers, PassesLow}
use Rattle.docsets.specs.Entries.{Entry, IsRest, Rising, first, from}
use Rattle.docsets.specs.ScoredEntries.{all_from, greatest_score, rescored_by}

-- ---- bounds

-- a constant is a bound of itself
pub covers-constant : (score target until : ℕ) (es : List Entry) → Covers target until score (rescored_by (λ e. score) es)
covers-constant score target until [] = tt
covers-constant score target until (e ∷ es) = ((λ a b. omega arith), covers-constant score target until es)

-- all documents from one on score 1
pub covers-ones : (target until doc count : ℕ) → Covers target until 1 (all_from doc count)
covers-ones target until doc zero = tt
covers-ones target until doc (suc n) = ((λ a b. omega arith), covers-ones target until (doc + 1) n)

-- a bound of scores gives one of boosted scores
pub covers-boosted : (boost target until bound boosted : ℕ) (es : List Entry) → boost * greatest_score es ≤ max_score → ((score : ℕ) → score ≤ bound → boost * score ≤ max_score → boost * score ≤ boosted) → Covers target until bound es → Covers target until boosted (rescored_by (λ e. boost * e.score) es)
covers-boosted boost target until bound boosted [] fits holds covers = tt
covers-boosted boost target until bound boosted (e ∷ es) fits holds covers =
    let first_low : e.score ≤ greatest_score (e ∷ es) = omega arith in
    let rest_low : greatest_score es ≤ greatest_score (e ∷ es) = omega arith in
    let one = mul-le-mul_left boost first_low in
    let rest = mul-le-mul_left boost rest_low in
    ((λ a b. holds e.score (covers.0 a b) (omega (arith, one, fits))), covers-boosted boost target until bound boosted es (omega (arith, rest, fits)) holds covers.1)

-- ---- moves

-- nothing is at the end
from_end : (low : ℕ) (es : List Entry) → Rising low es → from terminated es ≡ []
from_end low [] r = refl
from_end low (e ∷ es) r = from-out terminated e es r.1 ∙ from_end (e.doc + 1) es r.3

-- a cursor may go to its end where no score is above the threshold
passes_all : (threshold : ℤ) (low : ℕ) (es : List Entry) → Rising low es → AllByRecursion (λ e. pos e.score ≤ℤ threshold) es → PassesLow threshold es []
passes_all threshold low es r all = record { rest = sym (from_end low es r); low = passed es all }
  where
    passed : (xs : List Entry) → AllByRecursion (λ e. pos e.score ≤ℤ threshold) xs → AllByRecursion (λ e. e.doc < terminated → pos e.score ≤ℤ threshold) xs
    passed [] h = tt
    passed (e ∷ xs) h = ((λ below. h.0), passed xs h.1)

low_constant : (threshold : ℤ) (f : Entry → ℕ) (es : List Entry) → ((e : Entry) → pos (f e) ≤ℤ threshold) → AllByRecursion (λ e. pos e.score ≤ℤ threshold) (rescored_by f es)
low_constant threshold f [] low = tt
low_constant threshold f (e ∷ es) low = (low e, low_constant threshold f es low)

low_behind : (threshold : ℤ) (f : Entry → ℕ) (es : List Entry) → ((e : Entry) → pos (f e) ≤ℤ threshold) → AllByRecursion (λ e. pos e.score ≤ℤ threshold) (drop 1 (rescored_by f es))
low_behind threshold f [] low = tt
low_behind threshold f (e ∷ es) low = low_constant threshold f es low

-- so where every score is changed to one that isn't above it
pub passes_rescored : (threshold : ℤ) (f : Entry → ℕ) (low : ℕ) (es : List Entry) → Rising low es → Rising low (rescored_by f es) → ((e : Entry) → pos (f e) ≤ℤ threshold) → PassesLow threshold (drop 1 (rescored_by f es)) (rescored_by f (from terminated es))
passes_rescored threshold f low es r changed few =
    subst (λ (xs : List Entry). PassesLow threshold (drop 1 (rescored_by f es)) (rescored_by f xs)) (sym (from_end low es r))
    (passes_all threshold low (drop 1 (rescored_by f es)) (Rising-drop 1 low (rescored_by f es) changed) (low_behind threshold f es few))

low_ones : (threshold : ℤ) (doc count : ℕ) → pos 1 ≤ℤ threshold → AllByRecursion (λ e. pos e.score ≤ℤ threshold) (all_from doc count)
low_ones threshold doc zero low = tt
low_ones threshold doc (suc n) low = (low, low_ones threshold (doc + 1) n low)

low_ones_behind : (threshold : ℤ) (doc count : ℕ) → pos 1 ≤ℤ threshold → AllByRecursion (λ e. pos e.score ≤ℤ threshold) (drop 1 (all_from doc count))
low_ones_behind threshold doc zero low = tt
low_ones_behind threshold doc (suc n) low = low_ones threshold (doc + 1) n low

-- and where every score is 1
pub passes_ones : (threshold : ℤ) (doc count : ℕ) → Rising 0 (all_from doc count) → pos 1 ≤ℤ threshold → PassesLow threshold (drop 1 (all_from doc count)) []
passes_ones threshold doc count r low = passes_all threshold 0 (drop 1 (all_from doc count)) (Rising-drop 1 0 (all_from doc count) r) (low_ones_behind threshold doc count low)

-- one step passes nothing behind the current document
pub passes_one : (threshold : ℤ) (es next : List Entry) → Rising 0 es → next ≡ drop 1 es → PassesLow threshold (drop 1 es) next
passes_one threshold es next r is = subst (λ (xs : List Entry). PassesLow threshold (drop 1 es) xs) (sym is) (passes_none threshold 0 (drop 1 es) (Rising-drop 1 0 es r))

-- what is passed with scores under one threshold is passed with boosted scores under another
pub passes_boosted : (boost : ℕ) (given threshold : ℤ) (es after : List Entry) → ((score : ℕ) → pos score ≤ℤ given → pos (boost * score) ≤ℤ threshold) → PassesLow given (drop 1 es) after → PassesLow threshold (drop 1 (rescored_by (λ e. boost * e.score) es)) (rescored_by (λ e. boost * e.score) after)
passes_boosted boost given threshold es after holds passes =
    subst (λ (xs : List Entry). PassesLow threshold xs (rescored_by f after)) (sym (drop-rescored f 1 es)) (record {
      rest = ap (rescored_by f) passes.rest ∙ (sym (from-rescored f (first after) (drop 1 es)) ∙ ap (λ n. from n (rescored_by f (drop 1 es))) (sym (first-rescored f after)));
      low = subst (λ n. AllByRecursion (λ e. e.doc < n → pos e.score ≤ℤ threshold) (rescored_by f (drop 1 es))) (sym (first-rescored f after)) (lower (drop 1 es) passes.low);
    })
  where
    f : Entry → ℕ
    f e = boost * e.score

    lower : (xs : List Entry) → AllByRecursion (λ e. e.doc < first after → pos e.score ≤ℤ given) xs → AllByRecursion (λ e. e.doc < first after → pos e.score ≤ℤ threshold) (rescored_by f xs)
    lower [] h = tt
    lower (e ∷ xs) h = ((λ below. holds e.score (h.0 below)), lower xs h.1)

-- what comes behind the current document, from one on, is a rest
pub IsRest-behind : (t low : ℕ) (es : List Entry) → Rising low es → IsRest (from t (drop 1 es)) es
IsRest-behind t low es r = let rest = IsRest-from t low (drop 1 es) (Rising-drop 1 low es r) in (1 + rest.0, rest.1 ∙ drop-drop rest.0 1 es)

-- ---- thresholds
pub not_below : (given t c : ℤ) → int_lt given c ≡ false → given ≡ t → c ≤ℤ t
not_below given t c test is = grind (arith, ints)

-- a boost of 0 leaves nothing
pub boosted_to_zero : (boost : ℕ) (threshold : ℤ) → boost ≡ 0 → pos 0 ≤ℤ threshold → (score : ℕ) → pos (boost * score) ≤ℤ threshold
boosted_to_zero boost threshold none low score =
    let zero_times : 0 * score ≡ 0 = omega arith in
    subst (λ (n : ℕ). pos n ≤ℤ threshold) (sym (ap (λ b. b * score) none ∙ zero_times)) low
