-- What remains where scorers without documents are left out.
use Rattle.std.proofs.Common.{[], Bool, ap, arith, false, filter, if◌then◌else◌, List, map, refl, sym, true, ◌++◌, ◌+◌, ◌∙◌, ◌∷◌, ◌≡◌}
use Rattle.docsets.specs.Entries.{Entry}
use Rattle.docsets.specs.Members.{entries_at, entries_of}
use Rattle.docsets.specs.ScoredEntries.{greatest_score}
use Rattle.compound_walks.specs.Same.{HaveSame}

-- behind equal lists, the same
same_behind : (es : List Entry) (ess fss : List (List Entry)) → HaveSame ess fss → HaveSame (es ∷ ess) (es ∷ fss)
same_behind es ess fss same = record {
  entries = λ d. ap (λ xs. entries_of d es ++ xs) (same.entries d);
  greatest = ap (λ n. greatest_score es + n) same.greatest;
}

-- behind a list without entries, the same
same_without : (es : List Entry) (ess fss : List (List Entry)) → es ≡ [] → HaveSame ess fss → HaveSame ess (es ∷ fss)
same_without es ess fss none same = record {
  entries = λ d. same.entries d ∙ ap (λ xs. entries_of d xs ++ entries_at d fss) (sym none);
  greatest = (let as_many = same.greatest in let nothing = ap greatest_score none in omega (arith, as_many, nothing));
}

-- what is left of lists, of which only such as have no entry are left out, has the same
pub same_kept : {X : Type 0} (entries : X → List Entry) (kept : X → Bool) → ((x : X) → kept x ≡ false → entries x ≡ []) → (xs : List X) → HaveSame (map entries (filter kept xs)) (map entries xs)
same_kept entries kept out [] = record { entries = λ d. refl; greatest = refl }
same_kept entries kept out (x ∷ xs) =
    let ih = same_kept entries kept out xs in
    (elim (kept x) as (λ b. kept x ≡ b → HaveSame (map entries (if b then x ∷ filter kept xs else filter kept xs)) (entries x ∷ map entries xs)) [
      | true ↦ (λ stays. same_behind (entries x) (map entries (filter kept xs)) (map entries xs) ih)
      | false ↦ (λ goes. same_without (entries x) (map entries (filter kept xs)) (map entries xs) (out x goes) ih)
    ]) refl
