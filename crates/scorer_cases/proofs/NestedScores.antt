-- The greatest scores of members and of what they make.
use Rattle.std.proofs.Common.{[], Bool, List, ap, arith, false, if◌then◌else◌, map, max, sum, true, ◌+◌, ◌∷◌, ◌≡◌, ◌≤◌, ℕ}
use Rattle.docsets.specs.Entries.{Entry, Rising}
use Rattle.intersections.specs.Differences.{without}
use Rattle.docsets.specs.ScoredEntries.{greatest_score}
use Rattle.docsets.proofs.AtLeastLaws.{greatest-joined, greatest-summed}
use Rattle.docsets.specs.Members.{at_least, combining, greatest_sum, joining}

-- three members
pub of_three : {X : Type 0} (entries : X → List Entry) (bound : ℕ) (xs : List X) (x y z : X) → xs ≡ x ∷ y ∷ z ∷ [] → greatest_score (entries x) ≤ bound → greatest_score (entries y) ≤ bound → greatest_score (entries z) ≤ bound → greatest_sum (map entries xs) ≤ bound + bound + bound
of_three entries bound xs x y z is a b c = (let same = ap (λ ws. greatest_sum (map entries ws)) is in omega (arith, same, a, b, c))

-- a difference has no greater score
pub greatest-without : (excluded : ℕ → Bool) (es : List Entry) → greatest_score (without excluded es) ≤ greatest_score es
greatest-without excluded [] = omega arith
greatest-without excluded (e ∷ es) =
    let ih = greatest-without excluded es in
    elim (excluded e.doc) as (λ b. greatest_score (if b then without excluded es else e ∷ without excluded es) ≤ max e.score (greatest_score es)) [
      | true ↦ (let goal : greatest_score (without excluded es) ≤ max e.score (greatest_score es) = omega (arith, ih) in goal)
      | false ↦ (let goal : max e.score (greatest_score (without excluded es)) ≤ max e.score (greatest_score es) = omega (arith, ih) in goal)
    ]

-- an intersection and a union have none above the sum of the greatest
pub joined-bound : {X : Type 0} (entries : X → List Entry) → ((x : X) → Rising 0 (entries x)) → (minimum bound : ℕ) (xs : List X) (es : List Entry) → es ≡ at_least minimum joining (map entries xs) → greatest_sum (map entries xs) ≤ bound → greatest_score es ≤ bound
joined-bound entries rising minimum bound xs es is small = (let same = ap greatest_score is in let less = greatest-joined entries rising minimum xs in omega (arith, same, less, small))

pub summed-bound : {X : Type 0} (entries : X → List Entry) → ((x : X) → Rising 0 (entries x)) → (bound : ℕ) (xs : List X) (es : List Entry) → es ≡ at_least 1 (combining sum) (map entries xs) → greatest_sum (map entries xs) ≤ bound → greatest_score es ≤ bound
summed-bound entries rising bound xs es is small = (let same = ap greatest_score is in let less = greatest-summed entries rising 1 xs in omega (arith, same, less, small))
