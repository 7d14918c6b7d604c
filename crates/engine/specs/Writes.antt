-- What a call leaves that appends one record to the file of an index.
use Rattle.std.specs.Prelude.{⊤, ◌≡◌, ◌≢◌, IfErr, IsTrue, List, OnOk, Result, Some, ℕ}
use Rattle.common.specs.declared.analyzer.Analyzer as analyzers
use Rattle.common.specs.declared.device.Device as devices
use Rattle.definitions.specs.Analyzers.{Analyzer}
use Rattle.definitions.specs.Calls as calls
use Rattle.definitions.specs.Moments.{LeavesOnly}
use Rattle.definitions.specs.declared.fault.Fault.{Fault}
use Rattle.definitions.specs.declared.fault.Fault.TheVariants as faults
use Rattle.index_state.specs.Records.{RecordsCall, RecordsSegments}
use Rattle.engine.specs.Files.{LeavesOneOf}
use Rattle.engine.specs.Indexes.{AppendsRecord, AppendsSegments, AreNext, CrashLeavesEither, CrashLeavesSegments, ImagesLeave, IndexRests, IndexStands, analyzer_of, device_of, members_of, schema_of, settings_of}
use Rattle.engine.specs.declared.index.Index.{Index}
use Rattle.segment_definitions.specs.ListBodies.{Member}

module _ {D A : Type 0} {d : devices.Ghosts D} {a : analyzers.Ghosts A} where
  -- of an index that stood for x, after a call that writes a record
  pub record Writes (analyze : A → Analyzer) (c : calls.Configuration) (x : calls.Index) (call : calls.Call)
      (old new : Index D A d a) (result : Result ⊤ Fault) : Type 0 where
    -- it stands for what the definitions let the call leave
    pub left : (y : calls.Index) × calls.Leaves c x call result y × IndexStands analyze new c y
    -- what it is refused with is the definitions' refusal, unless memory, the device or a limit is why
    pub exact : IfErr result (λ fault. fault ≢ faults.OutOfMemory → fault ≢ faults.Device → fault ≢ faults.Limit
        → calls.call_fault c x call ≡ Some fault)
    -- the segments that are committed are those that the body of its record makes
    pub recorded : OnOk result ((body : List ℕ) × RecordsCall c x.state call (members_of old) (members_of new) body)
    -- on an honest device its file has this record more
    pub appended : IsTrue (d.honest (device_of old)) → OnOk result (AppendsRecord c x.state call old new)
    -- a file that rests rests again
    pub rests : IsTrue (d.honest (device_of old)) → IndexRests old → OnOk result (IndexRests new)
    -- a crash at any moment of the call leaves a file of the groups before it or of those after it
    pub any_moment : IsTrue (d.honest (device_of old)) → IndexRests old
        → CrashLeavesEither analyze old new x.state.groups (calls.after c x.state call).groups
    -- where each image before it gives these groups, every record its list, a crash at any moment of the call leaves a
    -- file that gives them or those after it
    pub lists : IsTrue (d.honest (device_of old)) → IndexRests old → ImagesLeave analyze old x.state.groups
        → LeavesOnly d.moment d.left_since (device_of old) (device_of new)
        (LeavesOneOf (schema_of old) (settings_of old) (analyze (analyzer_of old)) x.state.groups
        (calls.after c x.state call).groups)
    -- and after an Ok those after it
    pub installed : IsTrue (d.honest (device_of old)) → IndexRests old → ImagesLeave analyze old x.state.groups
        → OnOk result (ImagesLeave analyze new (calls.after c x.state call).groups)

  -- of any index, whatever documents its segments are of, after a call that writes a record
  pub record WritesSegments (call : calls.Call) (old new : Index D A d a) (result : Result ⊤ Fault) : Type 0 where
    -- the segments that are committed are those that the body of its record makes
    pub recorded : OnOk result
        ((body : List ℕ) × RecordsSegments (schema_of old) call (members_of old) (members_of new) body)
    -- on an honest device its file has this record more
    pub appended : IsTrue (d.honest (device_of old)) → OnOk result (AppendsSegments call old new)
    -- a file that rests rests again
    pub rests : IsTrue (d.honest (device_of old)) → ∥ IndexRests old ∥₁ → OnOk result (∥ IndexRests new ∥₁)
    -- a crash at any moment of the call leaves a file of the segments before it, or of those that its record makes,
    -- which after an Ok are committed
    pub any_moment : IsTrue (d.honest (device_of old)) → ∥ IndexRests old ∥₁
        → (after : List Member) × AreNext call old after × OnOk result (after ≡ members_of new)
        × ∥ CrashLeavesSegments old new after ∥₁
