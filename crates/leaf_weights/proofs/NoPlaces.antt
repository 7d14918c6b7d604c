-- Where a term of a phrase has no positions the phrase has no places.
use Rattle.std.proofs.Common.{[], Bool, List, ap, false, filter, flat_map, if◌then◌else◌, map, nat_le, refl, sym, ◌++◌, ◌==◌, ◌≡◌, ◌∙◌, ◌∷◌, ℕ}
use Rattle.std.proofs.lemmas.List.{append_assoc}
use Rattle.definitions.specs.JsonLeaves.{once}
use Rattle.std.specs.List.{list_any}
use Rattle.definitions.specs.Phrases.{choices, is_reached, way}
use Rattle.phrases.proofs.PhrasePlaces.{ends, places-last}
use Rattle.phrases.specs.Places.{places_of}

-- a column among others is empty
pub record HasEmpty (columns : List (List ℕ)) : Type 0 where
  pub before : List (List ℕ)
  pub after : List (List ℕ)
  pub are : columns ≡ before ++ [] ∷ after

pub empty-first : (columns : List (List ℕ)) → HasEmpty ([] ∷ columns)
empty-first columns = record { before = []; after = columns; are = refl }

pub empty-later : (ps : List ℕ) (columns : List (List ℕ)) → HasEmpty columns → HasEmpty (ps ∷ columns)
empty-later ps columns h = record { before = ps ∷ h.before; after = h.after; are = ap (λ cs. ps ∷ cs) h.are }

-- no choice can be made
flat-none : (f : ℕ → List (List ℕ)) (ns : List ℕ) → ((n : ℕ) → f n ≡ []) → flat_map f ns ≡ []
flat-none f [] none = refl
flat-none f (n ∷ ns) none = ap (λ xs. xs ++ flat_map f ns) (none n) ∙ flat-none f ns none

no-choices : (before after : List (List ℕ)) → choices (before ++ [] ∷ after) ≡ []
no-choices [] after = refl
no-choices (ns ∷ before) after =
    ap (λ cs. flat_map (λ n. map (◌∷◌ n) cs) ns) (no-choices before after)
    ∙ flat-none (λ n. map (◌∷◌ n) []) ns (λ n. refl)

filter-none : (f : ℕ → Bool) (xs : List ℕ) → ((x : ℕ) → f x ≡ false) → filter f xs ≡ []
filter-none f [] none = refl
filter-none f (x ∷ xs) none = ap (λ b. if b then x ∷ filter f xs else filter f xs) (none x) ∙ filter-none f xs none

pub no-places : (slop : ℕ) (columns : List (List ℕ)) → HasEmpty columns → places_of slop columns ≡ []
no-places slop columns h = ap (places_of slop) h.are ∙ go h.before h.after
  where
    go : (before after : List (List ℕ)) → places_of slop (before ++ [] ∷ after) ≡ []
    go before [] = places-last slop before []
    go before (ps ∷ after) =
        let e = ends ps after in
        ap (λ cs. places_of slop (before ++ [] ∷ cs)) e.2
        ∙ ap (places_of slop) (sym (append_assoc before ([] ∷ e.0) (e.1 ∷ [])))
        ∙ places-last slop (before ++ [] ∷ e.0) e.1
        ∙ filter-none (is_reached (before ++ [] ∷ e.0) slop) (once ◌==◌ e.1) (λ r. ap (λ cs. list_any (λ choice. nat_le (way r choice) slop) cs) (no-choices before e.0))
