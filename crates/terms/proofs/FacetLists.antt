-- Facets made of lists of steps.
use Rattle.std.proofs.Common.{[], ◌++◌, ◌==◌, ◌||◌, ◌∷◌, ◌≡◌, Bool, List, None, Some, append-nil, ap, false, map, refl, sym, true, ℕ}
use Rattle.std.specs.List.{join_by, list_any}
use Rattle.definitions.specs.Facets.{encoded, facet_of_steps}
use Rattle.terms.proofs.FacetSteps.{all_zero_free_from, steps_of-encoded}
use Rattle.terms.specs.Steps.{steps_of}

-- steps that are joined by a byte
pub joined : {X : Type 0} (text : X → List ℕ) (steps : List X) → join_by text (0 ∷ []) steps ≡ encoded (map text steps)
joined text [] = refl
joined text (step ∷ []) = append-nil (text step)
joined text (step ∷ next ∷ steps) = ap (λ rest. text step ++ (0 ∷ rest)) (joined text (next ∷ steps))

-- a test of the steps' texts
pub any_text : {X : Type 0} (test : List ℕ → Bool) (text : X → List ℕ) (steps : List X) → list_any test (map text steps) ≡ list_any (λ step. test (text step)) steps
any_text test text [] = refl
any_text test text (step ∷ steps) = ap (λ b. test (text step) || b) (any_text test text steps)

-- without U+0000 they are a facet
pub facet_made : (steps : List (List ℕ)) → list_any (list_any (◌==◌ 0)) steps ≡ false → facet_of_steps steps ≡ Some (steps_of (encoded steps))
facet_made [] none = refl
facet_made (step ∷ steps) none = rw none (ap Some (sym (steps_of-encoded (step ∷ steps) (λ e. cc) (all_zero_free_from (step ∷ steps) none))))

-- and with it none
pub facet_refused : (steps : List (List ℕ)) → list_any (list_any (◌==◌ 0)) steps ≡ true → facet_of_steps steps ≡ None
facet_refused [] here = cc
facet_refused (step ∷ steps) here = rw here refl
