-- Bounds of scores, and the scores of several lists.
use Rattle.std.proofs.Common.{[], Bool, List, ap, arith, false, get_or, if◌then◌else◌, length, min, suc, sum, take, true, zero, ◌+◌, ◌<◌, ◌∙◌, ◌∷◌, ◌≡◌, ◌≤◌, ℕ}
use Rattle.std.specs.List.{AllByRecursion}
use Rattle.definitions.proofs.Lists.{by_order}
use Rattle.definitions.specs.Postings.{terminated}
use Rattle.definitions.specs.Scoring.{max_score}
use Rattle.docsets.proofs.EntryLaws.{from-low, from-out}
use Rattle.docsets.proofs.MemberLaws.{entries-kept, entries-low, entries-on, sum-scores}
use Rattle.docsets.specs.Bounds.{Covers}
use Rattle.docsets.specs.Entries.{Entry, Rising}
use Rattle.docsets.specs.EntryLaws.{Rising-lower}
use Rattle.docsets.specs.Members.{at_document, entries_at, entries_of, listed, scores_in, walk}

-- the score of a document is within a bound that covers it
pub covered_score : (d target until n low : ℕ) (es : List Entry) → Rising low es → Covers target until n es → target ≤ d → d < until → sum (scores_in (entries_of d es)) ≤ n
covered_score d target until n low [] rises covers late early = omega arith
covered_score d target until n low (e ∷ es) rises covers late early =
    by_order d e.doc (sum (scores_in (entries_of d (e ∷ es))) ≤ n)
    (λ before. by_order e.doc d (sum (scores_in (entries_of d (e ∷ es))) ≤ n)
    (λ after.
    let same : e.doc ≡ d = omega (arith, before, after) in
    let one = ap (λ xs. sum (scores_in xs)) (entries-on d (e ∷ es) (Rising-lower 0 low (e ∷ es) (omega arith) rises) same (omega (arith, same, rises.1))) in
    let few = covers.0 (omega (arith, same, late)) (omega (arith, same, early)) in
    omega (arith, one, few))
    (λ before. (let none = ap (λ xs. sum (scores_in xs)) (entries-low d low (e ∷ es) rises before) in omega (arith, none))))
    (λ after.
    let ih = covered_score d target until n (e.doc + 1) es rises.3 covers.1 late early in
    let kept = ap (λ xs. sum (scores_in xs)) (entries-kept d (e.doc + 1) (e ∷ es) (omega (arith, after))) in
    let out = ap (λ xs. sum (scores_in (entries_of d xs))) (from-out (e.doc + 1) e es (omega arith) ∙ from-low (e.doc + 1) (e.doc + 1) es (omega arith) rises.3) in
    omega (arith, ih, kept, out))

-- one list more
pub sum_more : (d i : ℕ) (ess : List (List Entry)) → i < length ess → sum (scores_in (entries_at d (take (i + 1) ess))) ≡ sum (scores_in (entries_at d (take i ess))) + sum (scores_in (entries_of d (get_or ess i [])))
sum_more d i [] within = absurd (omega (arith, within))
sum_more d zero (es ∷ ess) within =
    let both = sum-scores (entries_of d es) (entries_at d (take 0 ess)) in
    omega (arith, both)
sum_more d (suc i) (es ∷ ess) within =
    let ih = sum_more d i ess (omega (arith, within)) in
    let more = sum-scores (entries_of d es) (entries_at d (take (i + 1) ess)) in
    let less = sum-scores (entries_of d es) (entries_at d (take i ess)) in
    let next : suc i + 1 ≡ suc (i + 1) = omega arith in
    let whole = ap (λ k. sum (scores_in (entries_at d (take k (es ∷ ess))))) next in
    omega (arith, ih, more, less, whole)

-- ---- the documents that have a flag

covers_walk : (flag : ℕ → Bool) (entry : ℕ → Entry) (target until bound : ℕ) → ((d : ℕ) → target ≤ d → d < until → min (entry d).score max_score ≤ bound) → (low n : ℕ) → AllByRecursion (λ e. target ≤ e.doc → e.doc < until → min e.score max_score ≤ bound) (walk flag entry low n)
unfolding walk
covers_walk flag entry target until bound few low zero = tt
covers_walk flag entry target until bound few low (suc n) =
    let ih = covers_walk flag entry target until bound few (low + 1) n in
    elim (flag low) as (λ b. AllByRecursion (λ e. target ≤ e.doc → e.doc < until → min e.score max_score ≤ bound) (if b then at_document low (entry low) ∷ walk flag entry (low + 1) n else walk flag entry (low + 1) n)) [ true ↦ ((λ late early. few low late early), ih) | false ↦ ih ]

-- no score of a rising list is above the greatest
covers_fits : (target until bound low : ℕ) (es : List Entry) → Rising low es → AllByRecursion (λ e. target ≤ e.doc → e.doc < until → min e.score max_score ≤ bound) es → Covers target until bound es
covers_fits target until bound low [] rises few = tt
covers_fits target until bound low (e ∷ es) rises few =
    let most = rises.2 in
    ((λ late early. let l = few.0 late early in omega (arith, l, most)), covers_fits target until bound (e.doc + 1) es rises.3 few.1)

-- a bound of what the entries of each document make covers the documents that have a flag
pub covers_listed : (flag : ℕ → Bool) (entry : ℕ → Entry) (target until bound : ℕ) → Rising 0 (listed flag entry 0) → ((d : ℕ) → target ≤ d → d < until → min (entry d).score max_score ≤ bound) → Covers target until bound (listed flag entry 0)
unfolding listed
covers_listed flag entry target until bound rises few = covers_fits target until bound 0 (listed flag entry 0) rises (covers_walk flag entry target until bound few 0 terminated)
