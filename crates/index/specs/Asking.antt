-- Which call a line makes that may write to the device of what stands.
use Rattle.std.specs.Prelude.{[], ⊤, ◌≡◌, ◌≢◌, ◌⊎◌, Bool, IfErr, IsTrue, List, None, Ok, Option, Result, Some, false, ℕ}
use Rattle.common.specs.declared.analyzer.Analyzer as analyzers
use Rattle.common.specs.declared.device.Device as devices
use Rattle.definitions.specs.Analyzers.{Analyzer}
use Rattle.definitions.specs.Calls as calls
use Rattle.definitions.specs.Moments.{LeavesOnly}
use Rattle.definitions.specs.Requests as requests
use Rattle.definitions.specs.Step as steps
use Rattle.definitions.specs.declared.fault.Fault.{Fault}
use Rattle.definitions.specs.declared.fault.Fault.TheVariants as faults
use Rattle.engine.specs.Files.{IsOldOrSame, LeavesNone, is_first}
use Rattle.engine.specs.Indexes.{IndexStands, KeepsFile, device_of, schema_of}
use Rattle.engine.specs.Writes.{Writes}
use Rattle.engine.specs.declared.index.Index.{Index}
use Rattle.index_file.specs.Kept.{IsKept, LeavesNow}
use Rattle.index.specs.Sessions.{IsStage, device_on}
use Rattle.index.specs.declared.stage.Stage.{Stage}
use Rattle.index.specs.declared.stage.Stage.TheVariants.{Standing}
use Rattle.layouts.specs.RecordFiles.{IsFresh}
use Rattle.serde_json.specs.Data as json

module _ {D A : Type 0} {d : devices.Ghosts D} {an : analyzers.Ghosts A} where
  -- an index was made over the device of what stood, or none
  pub record Creates (old new : Stage D A d an) : Type 0 where
    -- a device that holds a byte is as it was
    pub stays :
        IsTrue (d.honest (device_on old)) → d.content (device_on old) ≢ []
        → IsKept d.moment d.left_since d.content d.unsynced (device_on old) (device_on new)
    -- what a crash may leave was fresh and stays so
    pub fresh :
        IsTrue (d.honest (device_on old)) → LeavesNow d.content d.unsynced (device_on old) (IsFresh is_first)
        → LeavesOnly d.moment d.left_since (device_on old) (device_on new) (IsFresh is_first)
    -- and it was no index or had the empty list, and stays so
    pub none :
        (cut : Analyzer) → IsTrue (d.honest (device_on old))
        → LeavesNow d.content d.unsynced (device_on old) (LeavesNone cut)
        → LeavesOnly d.moment d.left_since (device_on old) (device_on new) (LeavesNone cut)

  -- an index was opened from the device of what stood, or none: at every moment a crash leaves what it might have left
  -- before, or a file of the bodies that were read
  abbrev pub Opens : Stage D A d an → Stage D A d an → Type 0
  Opens old new =
      IsTrue (d.honest (device_on old))
      → LeavesOnly d.moment d.left_since (device_on old) (device_on new)
      (IsOldOrSame d.content d.unsynced (device_on old))

  -- a call that writes a record was made of an index, and ended so
  pub record IsWriting (analyze : A → Analyzer) (old new : Index D A d an) (call : calls.Call) : Type 0 where
    pub change : Result ⊤ Fault
    pub writes :
        (c : calls.Configuration) (x : calls.Index) → IndexStands analyze old c x
        → Writes analyze c x call old new change
    pub kept : IfErr change (λ fault. fault ≢ faults.Device → KeepsFile old new)

  -- one call that writes was made of an index, that of the request, or its device is as it was
  abbrev pub AsksIndex : (A → Analyzer) → Index D A d an → Index D A d an → requests.Request → Type 0
  AsksIndex analyze old new r =
      (device_of new ≡ device_of old)
      ⊎ ((call : calls.Call) × (steps.call_in (schema_of old) r ≡ Ok call) × IsWriting analyze old new call)

  -- no index that is ready stands
  abbrev pub IsUnready : (A → List ℕ → Bool) → (A → Analyzer) → Stage D A d an → Type 0
  IsUnready knows analyze old =
      (a : steps.Analysis) (s : steps.Stage) → IsStage knows analyze a old s → steps.is_ready s ≡ false

  -- what was asked of what stands made no call that may write, or one: of the index that stands, or, where none is
  -- ready, the call that makes one, or opens one
  pub data Asks (knows : A → List ℕ → Bool) (analyze : A → Analyzer) (old new : Stage D A d an)
      : Option requests.Request → Type 0 where
    nothing : (asked : Option requests.Request) → device_on new ≡ device_on old → Asks knows analyze old new asked
    of_index :
        (before after : Index D A d an) (r : requests.Request) → old ≡ Standing before → new ≡ Standing after
        → AsksIndex analyze before after r → Asks knows analyze old new (Some r)
    to_create :
        (schema : json.Data) (settings : Option json.Data) → IsUnready knows analyze old → Creates old new
        → Asks knows analyze old new (Some (requests.create_index schema settings))
    to_open :
        IsUnready knows analyze old → Opens old new → Asks knows analyze old new (Some requests.open_index)

  -- what is asked of the stage that stands
  abbrev pub AsksOf :
      (A → List ℕ → Bool) → (A → Analyzer) → Option (Stage D A d an) → Option (Stage D A d an)
      → Option requests.Request → Type 0
  AsksOf knows analyze (Some old) (Some new) asked = Asks knows analyze old new asked
  AsksOf knows analyze _ _ asked = ⊥

  abbrev pub CreatesOf : Option (Stage D A d an) → Option (Stage D A d an) → Type 0
  CreatesOf (Some old) (Some new) = Creates old new
  CreatesOf _ _ = ⊥

  abbrev pub OpensOf : Option (Stage D A d an) → Option (Stage D A d an) → Type 0
  OpensOf (Some old) (Some new) = Opens old new
  OpensOf _ _ = ⊥

  -- a crash at some moment from one device to the other leaves this
  abbrev pub LeftOn : Option (Stage D A d an) → Option (Stage D A d an) → List ℕ → Type 0
  LeftOn (Some old) (Some new) image = d.left_since (device_on new) (d.moment (device_on old)) image
  LeftOn _ _ image = ⊥

  -- a crash of what stands leaves only this now
  abbrev pub LeavesOn : Option (Stage D A d an) → (List ℕ → Type 0) → Type 0
  LeavesOn None P = ⊥
  LeavesOn (Some stage) P = LeavesNow d.content d.unsynced (device_on stage) P
