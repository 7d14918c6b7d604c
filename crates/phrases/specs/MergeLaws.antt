-- Laws of positions that two terms share.
use Rattle.std.proofs.Common.{[], ◌+◌, ◌<◌, ◌∷◌, ◌≡◌, ◌≤◌, List, arith, false, if◌then◌else◌, length, nat_le, refl, true, ℕ}
use Rattle.std.proofs.lemmas.Bool.Decides.{nat_tests}
use Rattle.definitions.specs.Scoring.{DontFall}
use Rattle.phrases.specs.Places.{Ascends, Rises, distinct}

pub Rises-lower : (low high : ℕ) (ps : List ℕ) → low ≤ high → Rises high ps → Rises low ps
Rises-lower low high [] l r = tt
Rises-lower low high (p ∷ ps) l r = (omega (arith, l, r.0), r.1)

-- positions that don't fall ascend
ascends-here : (low p : ℕ) (ps : List ℕ) → low ≤ p → DontFall (p ∷ ps) → Ascends low (p ∷ ps)
ascends-here low p [] l f = (l, tt)
ascends-here low p (q ∷ qs) l f = (l, ascends-here p q qs f.0 f.1)

pub ascends-from : (ps : List ℕ) → DontFall ps → Ascends 0 ps
ascends-from [] f = tt
ascends-from (p ∷ ps) f = ascends-here 0 p ps (omega arith) f

-- they rise
pub Rises-distinct : (next : ℕ) (ps : List ℕ) → Rises next (distinct next ps)
Rises-distinct next [] = tt
Rises-distinct next (p ∷ ps) =
    (elim (nat_le next p) as (λ b. nat_le next p ≡ b → Rises next (if b then p ∷ distinct (p + 1) ps else distinct next ps)) [
      | true ↦ (λ e. (grind (arith, nat_tests, e), Rises-distinct (p + 1) ps))
      | false ↦ (λ e. Rises-distinct next ps)
    ]) refl

-- and are no more
pub length-distinct : (next : ℕ) (ps : List ℕ) → length (distinct next ps) ≤ length ps
length-distinct next [] = omega arith
length-distinct next (p ∷ ps) =
    let ih = length-distinct next ps in
    let further = length-distinct (p + 1) ps in
    elim (nat_le next p) as (λ b. length (if b then p ∷ distinct (p + 1) ps else distinct next ps) ≤ length (p ∷ ps)) [
      | true ↦ (let goal : length (p ∷ distinct (p + 1) ps) ≤ length (p ∷ ps) = omega (arith, further) in goal)
      | false ↦ (let goal : length (distinct next ps) ≤ length (p ∷ ps) = omega (arith, ih) in goal)
    ]

-- how far a step of a merge goes, where it is at one position on the left and one on the right
pub record IsStep (l r kept passed skipped : ℕ) : Type 0 where
  pub less : l < r → (kept ≡ 0) × (passed ≡ 1) × (skipped ≡ 0)
  pub same : l ≡ r → (kept ≡ 1) × (passed ≡ 1) × (skipped ≡ 0)
  pub more : r < l → (kept ≡ 0) × (passed ≡ 0) × (skipped ≡ 1)
