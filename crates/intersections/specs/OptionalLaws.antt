-- Laws of a required list with an optional one.
use Rattle.std.proofs.Common.{◌+◌, ◌∷◌, ◌≡◌, ◌≤◌, Bool, List, arith, sum, true, ℕ}
use Rattle.std.proofs.Props.{props}
use Rattle.definitions.specs.Scoring.{max_score}
use Rattle.docsets.specs.Entries.{Entry, Rising}
use Rattle.docsets.specs.CombiningLaws.{sum-cons}
use Rattle.docsets.specs.ScoredEntries.{greatest_score}
use Rattle.docsets.specs.ScoredEntryLaws.{Rising-rescored}
use Rattle.docsets.proofs.MemberLaws.{sum-before}
use Rattle.docsets.specs.Members.{entries_of, scores_in}
use Rattle.intersections.specs.Optionals.{AddsUp, score_with, with_optional}

-- a score and the optional one are no more than the greatest of each
pub optional-fits : (d n : ℕ) (es os : List Entry) → Rising 0 os → n ≤ greatest_score es → greatest_score es + greatest_score os ≤ max_score → n + sum (scores_in (entries_of d os)) ≤ max_score
optional-fits d n es os r l fits = (let more = sum-before d 0 os r in omega (arith, l, fits, more))

pub Rising-optional : {C : Type 0} (answer : C → List ℕ → ℕ) (total : C → ℕ) → ((c : C) (xs : List ℕ) → total c + sum xs ≤ max_score → answer c xs ≤ max_score) → (c : C) (es os : List Entry) → Rising 0 es → Rising 0 os → total c ≡ 0 → greatest_score es + greatest_score os ≤ max_score → Rising 0 (with_optional (answer c) es os)
Rising-optional answer total bounded c es os r ro unused fits = Rising-rescored (score_with (answer c) os) 0 es r (λ e l. bounded c (e.score ∷ scores_in (entries_of e.doc os))
    (let le = optional-fits e.doc e.score es os ro l fits in let more = sum-cons e.score (scores_in (entries_of e.doc os)) in omega (arith, le, more, unused)))

pub AddsUp-prop : (sums : Bool) (combine : List ℕ → ℕ) → IsProp (sums ≡ true → AddsUp combine)
AddsUp-prop sums combine = hlevel props
