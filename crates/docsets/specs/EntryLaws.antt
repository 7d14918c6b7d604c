-- Laws of entries that remain.
use Rattle.std.proofs.Common.{[], ◌+◌, ◌-◌, ◌∷◌, ◌≤◌, List, arith, false, if◌then◌else◌, nat_le, true, ℕ}
use Rattle.std.specs.Coded.{Unit-prop}
use Rattle.std.proofs.Props.{props}
use Rattle.docsets.specs.Entries.{Entry, Rising, from}

-- what rises from a number rises from a lesser one
pub Rising-lower : (low high : ℕ) (es : List Entry) → low ≤ high → Rising high es → Rising low es
Rising-lower low high [] l r = tt
Rising-lower low high (e ∷ es) l r = (omega (arith, l, r.0), r.1, r.2, r.3)

-- what comes from a document on rises from it
pub Rising-from : (t low : ℕ) (es : List Entry) → Rising low es → Rising low (from t es)
Rising-from t low [] r = tt
Rising-from t low (e ∷ es) r = elim (nat_le t e.doc) as (λ b. Rising low (if b then e ∷ from t es else from t es)) [
  | true ↦ (r.0, r.1, r.2, Rising-from t (e.doc + 1) es r.3)
  | false ↦ Rising-lower low (e.doc + 1) (from t es) (omega (arith, r.0)) (Rising-from t (e.doc + 1) es r.3)
]

-- ---- propositions
pub Rising-prop : (low : ℕ) (es : List Entry) → IsProp (Rising low es)
Rising-prop low [] = Unit-prop
Rising-prop low (e ∷ es) = let rest : IsProp (Rising (e.doc + 1) es) = Rising-prop (e.doc + 1) es in hlevel (props, rest)
