-- What lists of scored documents have of one document, by what a combiner makes.
use Rattle.std.proofs.Common.{[], Bool, List, ap, if◌then◌else◌, map, ◌<◌, ◌∙◌, ◌∷◌, ◌≡◌, ℕ}
use Rattle.any_scorer.specs.Clauses.{by_number, scores_at, scores_of}
use Rattle.any_scorer.proofs.OneDocument.{scores_chosen, scores_optional, scores_without}
use Rattle.any_scorer.proofs.SamePairs.{same_scores}
use Rattle.docsets.specs.Entries.{Entry}
use Rattle.definitions.specs.Postings.{terminated}
use Rattle.intersections.specs.Differences.{without}
use Rattle.intersections.specs.Optionals.{with_optional}
use Rattle.docsets.specs.ScoredEntries.{pairs_of}
use Rattle.docsets.specs.Members.{at_least, combining, enough, joining}

-- what a combiner makes, walked
pub combined : (f g : List ℕ → ℕ) (minimum : ℕ) (es us : List Entry) (ess : List (List Entry)) → pairs_of es ≡ pairs_of us → us ≡ at_least minimum (combining f) ess → ((xs : List ℕ) → f xs ≡ g xs) → (d : ℕ) → d < terminated → scores_of d es ≡ (if enough minimum ess d then g (scores_at d ess) ∷ [] else [])
combined f g minimum es us ess same is agree d l =
    same_scores d es us same
    ∙ (ap (scores_of d) is
    ∙ (scores_chosen minimum (combining f) ess d l
    ∙ ap (λ x. if enough minimum ess d then x ∷ [] else []) (agree (scores_at d ess))))

-- what all lists have, walked
pub joined : (minimum : ℕ) (es us : List Entry) (ess : List (List Entry)) → pairs_of es ≡ pairs_of us → us ≡ at_least minimum joining ess → (d : ℕ) → d < terminated → scores_of d es ≡ by_number minimum ess d
joined minimum es us ess same is d l =
    same_scores d es us same
    ∙ (ap (scores_of d) is
    ∙ scores_chosen minimum joining ess d l)

-- what isn't excluded, walked
pub excluded : (set : ℕ → Bool) (es fs gs : List Entry) (d : ℕ) (b : Bool) (ss : List ℕ) → pairs_of es ≡ pairs_of fs → fs ≡ without set gs → set d ≡ b → scores_of d gs ≡ ss → scores_of d es ≡ (if b then [] else ss)
excluded set es fs gs d b ss same is out left =
    same_scores d es fs same
    ∙ (ap (scores_of d) is
    ∙ (scores_without set d gs
    ∙ (ap (λ c. if c then [] else scores_of d gs) out
    ∙ ap (λ xs. if b then [] else xs) left)))

-- an optional list, walked
pub with_optional_scores : (f : List ℕ → ℕ) (es fs gs os : List Entry) (d : ℕ) → pairs_of es ≡ pairs_of fs → fs ≡ with_optional f gs os → scores_of d es ≡ map (λ s. f (s ∷ scores_of d os)) (scores_of d gs)
with_optional_scores f es fs gs os d same is = same_scores d es fs same ∙ (ap (scores_of d) is ∙ scores_optional f d gs os)
