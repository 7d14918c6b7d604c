-- Laws of how many places there are: laws.
use Rattle.std.proofs.Common.{[], ◌+◌, ◌-◌, ◌<◌, ◌∷◌, ◌≤◌, List, arith, false, get_or, if◌then◌else◌, max, nat_le, suc, true, zero, ℕ}
use Rattle.docsets.specs.Entries.{highest}
use Rattle.phrases.specs.PhraseEntries.{AreColumns}
use Rattle.phrases.specs.Places.{Ascends, distinct}

pub highest-distinct : (next : ℕ) (ps : List ℕ) → highest (distinct next ps) ≤ highest ps
highest-distinct next [] = omega arith
highest-distinct next (p ∷ ps) = (let further = highest-distinct (p + 1) ps in let rest = highest-distinct next ps in elim (nat_le next p) as (λ b. highest (if b then p ∷ distinct (p + 1) ps else distinct next ps) ≤ highest (p ∷ ps)) [ true ↦ (let goal : max p (highest (distinct (p + 1) ps)) ≤ max p (highest ps) = omega (arith, further) in goal) | false ↦ (let goal : highest (distinct next ps) ≤ max p (highest ps) = omega (arith, rest) in goal) ])

pub column-fits : (columns : List (List ℕ)) (i : ℕ) → AreColumns columns → Ascends 0 (get_or columns i []) × (highest (get_or columns i []) < 4294967295)
column-fits [] i c = (tt, omega arith)
column-fits (ps ∷ columns) zero c = (c.0, c.1)
column-fits (ps ∷ columns) (suc i) c = column-fits columns i c.2
