-- The document on which a disjunction stands: laws.
use Rattle.std.proofs.Common.{◌+◌, ◌≤◌, List, arith, sum, ℕ}
use Rattle.std.proofs.Props.{props}
use Rattle.definitions.specs.Scoring.{max_score}
use Rattle.docsets.specs.Entries.{Entry, Rising}
use Rattle.docsets.specs.Members.{at_least, combining, enough, entries_at, scores_in}
use Rattle.docsets.proofs.MemberLaws.{Rising-listed}
use Rattle.scorers.specs.Choices.{IsChosen}

pub IsChosen-prop : {C : Type 0} (answer : C → List ℕ → ℕ) (total : C → ℕ) (minimum : ℕ) (combiner : C) (ess : List (List Entry)) (doc : ℕ) → IsProp (IsChosen answer total minimum combiner ess doc)
IsChosen-prop answer total minimum combiner ess doc = hlevel props

pub Rising-chosen : {C : Type 0} (answer : C → List ℕ → ℕ) (total : C → ℕ) → ((c : C) (xs : List ℕ) → total c + sum xs ≤ max_score → answer c xs ≤ max_score) → (minimum : ℕ) (combiner : C) (ess : List (List Entry)) (doc : ℕ) → IsChosen answer total minimum combiner ess doc → Rising 0 (at_least minimum (combining (answer combiner)) ess)
Rising-chosen answer total bounded minimum combiner ess doc c =
    let unused = c.unused in
    Rising-listed (enough minimum ess) (λ d. combining (answer combiner) d (entries_at d ess)) 0 (λ d l t e. bounded combiner (scores_in (entries_at d ess)) (let fits = c.fits d in omega (arith, fits, unused)))
