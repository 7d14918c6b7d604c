-- Laws of a required list with an optional one.
use Rattle.std.proofs.Common.{[], ◌+◌, ◌<◌, ◌∙◌, ◌∷◌, ◌≡◌, ◌≤◌, List, ap, arith, min, refl, ℕ}
use Rattle.definitions.specs.Postings.{terminated}
use Rattle.definitions.specs.Scoring.{max_score}
use Rattle.docsets.specs.Bounds.{Covers}
use Rattle.docsets.specs.CombiningLaws.{sum-cons}
use Rattle.docsets.specs.Entries.{Entry, Rising, first, first_score, from}
use Rattle.docsets.proofs.MemberLaws.{entries-kept}
use Rattle.intersections.proofs.BoundLaws.{covered_score}
use Rattle.docsets.specs.Members.{entries_of, scores_in}
use Rattle.intersections.specs.Optionals.{AddsUp, score_with, with_optional}

optional-cut : (f : List ℕ → ℕ) (t low : ℕ) (es os : List Entry) → Rising low es → t ≤ low → with_optional f es (from t os) ≡ with_optional f es os
optional-cut f t low [] os r l = refl
optional-cut f t low (e ∷ es) os r l =
    let at = r.0 in
    ap (λ xs. record e { score = f (e.score ∷ scores_in xs) } ∷ with_optional f es (from t os)) (entries-kept e.doc t os (omega (arith, at, l)))
    ∙ ap (λ xs. record e { score = score_with f os e } ∷ xs) (optional-cut f t (e.doc + 1) es os r.3 (omega (arith, at, l)))

-- what comes before the first isn't asked for
pub optional-first : (f : List ℕ → ℕ) (es os : List Entry) → Rising 0 es → with_optional f es (from (first es) os) ≡ with_optional f es os
optional-first f [] os r = refl
optional-first f (e ∷ es) os r = optional-cut f e.doc e.doc (e ∷ es) os (omega arith, r.1, r.2, r.3) (omega arith)

-- the score of the first
pub optional-score : (f : List ℕ → ℕ) (es os : List Entry) → first es < terminated → first_score (with_optional f es os) ≡ f (first_score es ∷ scores_in (entries_of (first es) os))
optional-score f [] os l = absurd (omega (arith, l))
optional-score f (e ∷ es) os l = refl

-- ---- bounds

-- a list whose documents come behind a window has no score there
behind_window : (target until low : ℕ) (es : List Entry) → Rising low es → until ≤ first es → Covers target until 0 es
behind_window target until low [] r late = tt
behind_window target until low (e ∷ es) r late = ((λ from before. absurd (omega (arith, late, before))), behind_each target until (e.doc + 1) es r.3 (omega (arith, late)))
  where
    behind_each : (target until low : ℕ) (es : List Entry) → Rising low es → until ≤ low → Covers target until 0 es
    behind_each target until low [] r late = tt
    behind_each target until low (e ∷ es) r late =
        let at = r.0 in
        ((λ from before. absurd (omega (arith, late, before, at))), behind_each target until (e.doc + 1) es r.3 (omega (arith, late, at)))

-- bounds of both bound the sums, which are no more than the greatest score
pub covers_sums : (f : List ℕ → ℕ) (target own_until more_until until own more bound low : ℕ) (es os : List Entry) → AddsUp f → until ≤ own_until → until ≤ more_until → min (own + more) max_score ≤ bound → Rising 0 os → Rising low (with_optional f es os) → Covers target own_until own es → Covers target more_until more os → Covers target until bound (with_optional f es os)
covers_sums f target own_until more_until until own more bound low [] os adds within both fits ro r few fewo = tt
covers_sums f target own_until more_until until own more bound low (e ∷ es) os adds within both fits ro r few fewo = (
  (λ late early.
      let total = adds (e.score ∷ scores_in (entries_of e.doc os)) in
      let sums = sum-cons e.score (scores_in (entries_of e.doc os)) in
      let first_part = few.0 late (omega (arith, early, within)) in
      let second_part = covered_score e.doc target more_until more 0 os ro fewo late (omega (arith, early, both)) in
      let most = r.2 in
      omega (arith, total, sums, first_part, second_part, most, fits)),
  covers_sums f target own_until more_until until own more bound (e.doc + 1) es os adds within both fits ro r.3 few.1 fewo,
)

-- one whose documents come behind the window adds nothing
pub covers_alone : (f : List ℕ → ℕ) (target until own low : ℕ) (es os : List Entry) → AddsUp f → until ≤ first os → Rising 0 os → Rising low (with_optional f es os) → Covers target until own es → Covers target until own (with_optional f es os)
covers_alone f target until own low es os adds late ro r few = go low es r few
  where
    go : (low : ℕ) (es : List Entry) → Rising low (with_optional f es os) → Covers target until own es → Covers target until own (with_optional f es os)
    go low [] r few = tt
    go low (e ∷ es) r few = (
      (λ after early.
          let total = adds (e.score ∷ scores_in (entries_of e.doc os)) in
          let sums = sum-cons e.score (scores_in (entries_of e.doc os)) in
          let first_part = few.0 after early in
          let second_part = covered_score e.doc target until 0 0 os ro (behind_window target until 0 os ro late) after early in
          omega (arith, total, sums, first_part, second_part)),
      go (e.doc + 1) es r.3 few.1,
    )
