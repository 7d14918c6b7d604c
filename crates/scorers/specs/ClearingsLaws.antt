-- Laws of windows whose documents are cleared where they are passed: laws.
use Rattle.std.proofs.Common.{◌-◌, ◌/◌, ◌<◌, ◌≡◌, Bool, List, ℕ}
use Rattle.std.proofs.Props.{props}
use Rattle.definitions.specs.Postings.{terminated}
use Rattle.scorers.specs.Windows.{IsCleared}

pub IsCleared-prop : {C : Type 0} (answer : C → List ℕ → ℕ) (total : C → ℕ) (flags : List Bool) (slots : List C) (fresh : C) (n : ℕ) → IsProp (IsCleared answer total flags slots fresh n)
IsCleared-prop answer total flags slots fresh n = hlevel props

pub IsBucketed-prop : (doc start bucket : ℕ) → IsProp (doc < terminated → bucket ≡ (doc - start) / 64)
IsBucketed-prop doc start bucket = hlevel props
