-- How long lists of entries are, and what scores they have where all are the same.
use Rattle.std.proofs.Common.{Bool, List, arith, false, if◌then◌else◌, length, suc, true, zero, ◌+◌, ◌-◌, ◌∷◌, ◌≤◌, ℕ}
use Rattle.definitions.specs.Postings.{terminated}
use Rattle.docsets.specs.Entries.{Entry}
use Rattle.docsets.specs.Members.{at_document, enough, entries_at, joining, listed, walk}
use Rattle.walks.specs.Unions.{union}

few_walked : (f : ℕ → Bool) (s : ℕ → Entry) (low n : ℕ) → length (walk f s low n) ≤ n
unfolding walk
few_walked f s low zero = omega arith
few_walked f s low (suc n) =
    let ih = few_walked f s (low + 1) n in
    elim (f low) as (λ b. length (if b then at_document low (s low) ∷ walk f s (low + 1) n else walk f s (low + 1) n) ≤ suc n) [
      | true ↦ omega (arith, ih)
      | false ↦ omega (arith, ih)
    ]

-- a union has no more documents than there are numbers for them
pub few_together : (ess : List (List Entry)) → length (union ess) ≤ terminated
unfolding listed
few_together ess = let few = few_walked (enough 1 ess) (λ d. joining d (entries_at d ess)) 0 (terminated - 0) in omega (arith, few)
