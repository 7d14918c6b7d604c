-- What is replied to requests of an index.
use Rattle.std.specs.Prelude.{Bool, Err, IfOk, IsTrue, List, None, Ok, OnOk, Option, Result, Some, [], codes, false, true, ⊤, ℕ, ◌++◌, ◌∷◌, ◌≡◌, ◌≢◌, ◌⊎◌}
use Rattle.std.specs.Cow.{cow_str_bytes}
use Rattle.std.specs.declared.borrow.CowStr.{CowStr}
use Rattle.common.specs.declared.analyzer.Analyzer as analyzers
use Rattle.common.specs.declared.device.Device as devices
use Rattle.definitions.specs.Analyzers.{Analyzer}
use Rattle.definitions.specs.Calls as calls
use Rattle.definitions.specs.FaultNames.{reply_text}
use Rattle.definitions.specs.Reading.{read_data}
use Rattle.definitions.specs.Replies.{ok_reply, reply_of}
use Rattle.definitions.specs.Requests as requests
use Rattle.definitions.specs.Schema.{Schema}
use Rattle.definitions.specs.Settings.{Settings}
use Rattle.definitions.specs.Step as steps
use Rattle.definitions.specs.Values.{Document}
use Rattle.definitions.specs.declared.fault.Fault.{Fault}
use Rattle.definitions.specs.declared.fault.Fault.TheVariants as faults
use Rattle.engine.specs.Indexes.{AddPasses, CommitPasses, CrashLeavesEither, IndexRests, IndexStands, KeepsFile, device_of, settings_of}
use Rattle.engine.specs.Merges.{MergePasses}
use Rattle.engine.specs.declared.index.Index.{Index}
use Rattle.definitions.specs.Replying.{stops}
use Rattle.engine.specs.HandedOn.{IsSlotTooLong}
use Rattle.serde_json.specs.Data as json

-- the reply to a change
abbrev pub change_text : Result ⊤ Fault → List ℕ
change_text (Ok u) = codes "{\"ok\":true}"
change_text (Err fault) = reply_text fault

-- the change met no fault that stops
abbrev pub GoesOn : Result ⊤ Fault → Type 0
GoesOn (Ok u) = ⊤
GoesOn (Err fault) = stops fault ≡ false

-- the text is the definitions' reply, and the index stands for what comes after
pub record Answers {D A Z : Type 0} {d : devices.Ghosts D} {an : analyzers.Ghosts A} (analyze : A → Analyzer) (new : Index D A d an)
    (c : calls.Configuration) (x : calls.Index) (r : requests.Request) (result : Result (CowStr Z) Fault) : Type 0 where
  pub text : IfOk result (λ text. cow_str_bytes text ≡ reply_of ((steps.index_step c x r).0))
  pub state : OnOk result (IndexStands analyze new c ((steps.index_step c x r).1))

-- the request is answered as a change is, and the index stands for what comes after
abbrev pub TakesChange : {D A : Type 0} {d : devices.Ghosts D} {an : analyzers.Ghosts A} → (A → Analyzer) → Index D A d an → calls.Configuration → calls.Index → requests.Request → Type 0
TakesChange analyze new c x r = ((steps.index_step c x r).0 ≡ ok_reply) × IndexStands analyze new c ((steps.index_step c x r).1)

-- whether a request may write to the device: it makes or opens an index, or commits or merges
abbrev pub may_write : Option requests.Request → Bool
may_write (Some (requests.create_index schema settings)) = true
may_write (Some requests.open_index) = true
may_write (Some requests.commit_all) = true
may_write (Some (requests.merge_groups from to)) = true
may_write _ = false

-- a reply after which the device is as it was: it isn't that such a request was done, and the device didn't fail
abbrev pub IsUnwritten : {Z : Type 0} → Option requests.Request → Result (CowStr Z) Fault → Type 0
IsUnwritten asked (Ok text) = may_write asked ≡ true → cow_str_bytes text ≢ codes "{\"ok\":true}"
IsUnwritten asked (Err fault) = fault ≢ faults.Device

-- an index without its writer
abbrev pub closed_writer : calls.Index → calls.Index
closed_writer x = record { state = x.state; status = calls.writer_closed }

-- an index that takes no call
abbrev pub closed_index : calls.Index → calls.Index
closed_index x = record { state = x.state; status = calls.closed }

-- a failed device closed the index; over an honest device, where it rested, a crash at any moment left a file of the
-- groups before what was asked, or of those after it
pub record IsFailed {D A : Type 0} {d : devices.Ghosts D} {an : analyzers.Ghosts A} (analyze : A → Analyzer)
    (old new : Index D A d an) (c : calls.Configuration) (x : calls.Index) (r : requests.Request) : Type 0 where
  pub stands : IndexStands analyze new c (closed_index x)
  pub files :
      IsTrue (d.honest (device_of old)) → IndexRests old
      → CrashLeavesEither analyze old new x.state.groups (steps.index_step c x r).1.state.groups

-- a value is a document whose slot is too long beside a block
abbrev pub HasLongSlot : Schema → Settings → json.Data → Type 0
HasLongSlot schema settings value = (doc : Document) × (read_data schema value ≡ Ok doc) × IsSlotTooLong schema settings doc

-- after this fault what stood may stand: a limit closes the writer, but that of a merge, and of an add whose document's
-- slot is too long
abbrev pub MayStay : Schema → Settings → Option requests.Request → Fault → Type 0
MayStay schema settings (Some (requests.add_doc value)) fault = fault ≡ faults.Limit → HasLongSlot schema settings value
MayStay schema settings (Some requests.commit_all) fault = fault ≢ faults.Limit
MayStay schema settings _ fault = ⊤

-- what is asked may close the writer of an index: a commit that isn't refused, or such an add, of a document whose slot
-- isn't too long
abbrev pub MayClose : calls.Configuration → Settings → calls.Index → Option requests.Request → Type 0
MayClose c settings x (Some (requests.add_doc value)) =
    (calls.call_fault c x (calls.add_value value) ≡ None) × ¬ HasLongSlot c.schema settings value
MayClose c settings x (Some requests.commit_all) = calls.call_fault c x calls.commit_pending ≡ None
MayClose c settings x _ = ⊥

-- device and gate are as they were; what stood stands, or its writer is closed, where what was asked may leave that
pub record OnlyStops {D A : Type 0} {d : devices.Ghosts D} {an : analyzers.Ghosts A} (analyze : A → Analyzer) (old new : Index D A d an)
    (c : calls.Configuration) (x : calls.Index) (r : requests.Request) (fault : Fault) : Type 0 where
  pub file : KeepsFile old new
  pub stands :
      (MayStay c.schema (settings_of old) (Some r) fault × IndexStands analyze new c x)
      ⊎ (MayClose c (settings_of old) x (Some r) × IndexStands analyze new c (closed_writer x))

-- an add, a merge or a commit meets a limit: the document passes one, or the merge or the commit does
abbrev pub IndexMeets : {D A : Type 0} {d : devices.Ghosts D} {an : analyzers.Ghosts A} → (A → Analyzer) → Index D A d an → calls.Configuration → calls.Index → Option requests.Request → Type 0
IndexMeets analyze index c x (Some (requests.add_doc value)) = (doc : Document) × (read_data c.schema value ≡ Ok doc) × AddPasses c x.state index doc
IndexMeets analyze index c x (Some (requests.merge_groups from to)) = MergePasses analyze c x.state from to index
IndexMeets analyze index c x (Some requests.commit_all) = CommitPasses c x.state index
IndexMeets analyze index c x _ = ⊥
