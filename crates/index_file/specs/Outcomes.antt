-- Why a file isn't read, and which failures of a device are counted.
use Rattle.std.specs.Prelude.{◌≡◌, ◌⊎◌, IsErrOf, List, Result, Some, ℕ}
use Rattle.definitions.specs.declared.fault.Fault.{Fault}
use Rattle.definitions.specs.declared.fault.Fault.TheVariants as faults
use Rattle.layouts.specs.RecordFiles.{IsDamaged, IsNoIndex}

-- no index, or damaged from a gate on
abbrev pub IsRefusal : (List (List ℕ) → List ℕ → Type 0) → List ℕ → Fault → Type 0
IsRefusal takes bytes fault =
    ((fault ≡ faults.NoIndex) × IsNoIndex bytes)
    ⊎ ((offset : ℕ) × (fault ≡ faults.Damaged (Some offset)) × IsDamaged takes bytes offset)

-- where the answer isn't `Device`, no failure was counted
abbrev pub CountsNoOther : {T : Type 0} → ℕ → ℕ → Result T Fault → Type 0
CountsNoOther before now result = ¬ IsErrOf result faults.Device → now ≡ before
