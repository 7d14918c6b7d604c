-- Laws of differences.
use Rattle.std.proofs.Common.{[], ◌+◌, ◌∷◌, Bool, List, arith, false, if◌then◌else◌, true, ℕ}
use Rattle.std.proofs.Props.{props}
use Rattle.docsets.specs.Entries.{Entry, Rising}
use Rattle.docsets.specs.EntryLaws.{Rising-lower}
use Rattle.intersections.specs.Differences.{IsOutside, without}

pub Rising-without : (set : ℕ → Bool) (low : ℕ) (es : List Entry) → Rising low es → Rising low (without set es)
Rising-without set low [] r = tt
Rising-without set low (e ∷ es) r = elim (set e.doc) as (λ b. Rising low (if b then without set es else e ∷ without set es)) [
  | true ↦ Rising-lower low (e.doc + 1) (without set es) (omega (arith, r.0)) (Rising-without set (e.doc + 1) es r.3)
  | false ↦ (r.0, r.1, r.2, Rising-without set (e.doc + 1) es r.3)
]

pub IsOutside-prop : (set : ℕ → Bool) (es : List Entry) → IsProp (IsOutside set es)
IsOutside-prop set es = hlevel props
