-- What a device with a fuse is.
use Rattle.std.specs.Prelude.{◌+◌, ◌-◌, ◌^◌, ◌≡◌, ◌≤◌, IsErrOf, Result, min, ℕ}
use Rattle.definitions.specs.declared.fault.Fault.{Fault}
use Rattle.definitions.specs.declared.fault.Fault.TheVariants as faults
use Rattle.definitions.specs.Disk.{HasCause}
use Rattle.common.specs.declared.fuse_device.FuseDevice.{FuseDevice}

module _ {D : Type 0} where
  -- the device inside
  abbrev pub inner_of : FuseDevice D → D
  inner_of fused = fused.device

  -- the number of the first call that fails
  abbrev pub first_failing : FuseDevice D → ℕ
  first_failing fused = fused.first

  -- how many calls were made, failed ones too
  abbrev pub calls_of : FuseDevice D → ℕ
  calls_of fused = fused.calls

  -- the next call fails
  abbrev pub FailsNext : FuseDevice D → Type 0
  FailsNext fused = first_failing fused ≤ calls_of fused + 1

  -- one more call was made of it
  pub record CountsCall (old new : FuseDevice D) : Type 0 where
    pub calls : calls_of new ≡ min (calls_of old + 1) (2 ^ 64 - 1)
    pub first : first_failing new ≡ first_failing old

  -- a call with this result: with a blown fuse it fails and does nothing, else it fails only where the device inside does
  pub record IsFused {T : Type 0} (failed : D → ℕ) (old new : FuseDevice D) (result : Result T Fault) : Type 0 where
    pub counts : CountsCall old new
    pub blown : FailsNext old → IsErrOf result faults.Device × (inner_of new ≡ inner_of old)
    pub inside : ¬ FailsNext old → HasCause (failed (inner_of old)) (failed (inner_of new)) result

  -- the failures of the device inside and those of the fuse, in 64 bits
  abbrev pub failures_with : (D → ℕ) → FuseDevice D → ℕ
  failures_with failed fused = min (failed fused.device + fused.failed) (2 ^ 64 - 1)
