-- The document on which a disjunction stands.
use Rattle.std.proofs.Common.{[], ◌<◌, ◌∙◌, ◌≡◌, List, ap, arith, sym, ℕ}
use Rattle.definitions.specs.Postings.{terminated}
use Rattle.docsets.specs.Entries.{Entry, first, first_score}
use Rattle.docsets.proofs.AtLeastLaws.{chosen-low}
use Rattle.docsets.specs.Members.{at_least, combining, enough, entries_at, least, listed, scores_in}
use Rattle.docsets.proofs.MemberLaws.{listed-found, listed-stands}
use Rattle.scorers.specs.Choices.{IsChosen}

-- the score of what was chosen
pub chosen-score : {C : Type 0} (answer : C → List ℕ → ℕ) (total : C → ℕ) (minimum : ℕ) (combiner : C) (ess : List (List Entry)) (doc : ℕ) → IsChosen answer total minimum combiner ess doc → ((d : ℕ) → d < least ess → entries_at d ess ≡ []) → doc < terminated → first_score (at_least minimum (combining (answer combiner)) ess) ≡ answer combiner (scores_in (entries_at doc ess))
chosen-score answer total minimum combiner ess doc c none l =
    let leads = c.leads in
    let some = c.some in
    let flag = enough minimum ess in
    let entry : ℕ → Entry = λ d. combining (answer combiner) d (entries_at d ess) in
    let low = chosen-low minimum (combining (answer combiner)) ess (omega (arith, some)) (omega (arith, leads, l)) none in
    let at : doc ≡ first (listed flag entry doc) = c.at ∙ ap first (low ∙ ap (listed flag entry) (sym leads)) in
    ap first_score (low ∙ (ap (listed flag entry) (sym leads) ∙ listed-found flag entry doc l (listed-stands flag entry doc l at)))
