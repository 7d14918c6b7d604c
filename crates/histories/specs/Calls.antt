-- What one call of an index does, whichever it is.
use Rattle.std.specs.Prelude.{⊤, ◌≡◌, ◌≢◌, Err, IfErr, IfOk, IsTrue, List, None, Ok, OnOk, Option, Result, Some, map, ℕ, ℤ}
use Rattle.common.specs.declared.analyzer.Analyzer as analyzers
use Rattle.common.specs.declared.device.Device as devices
use Rattle.definitions.specs.Analyzers.{Analyzer}
use Rattle.definitions.specs.Calls as calls
use Rattle.definitions.specs.Disk.{HasCause}
use Rattle.definitions.specs.Moments.{LeavesOnly}
use Rattle.definitions.specs.Reading.{read_data, read_json}
use Rattle.definitions.specs.Scanning.{scan, scan_count}
use Rattle.definitions.specs.State.{State, committed}
use Rattle.definitions.specs.Stored.{Named}
use Rattle.definitions.specs.Values.{Document}
use Rattle.definitions.specs.declared.fault.Fault.{Fault}
use Rattle.definitions.specs.declared.fault.Fault.TheVariants as faults
use Rattle.index_state.specs.Hits.{scored}
use Rattle.engine.specs.Files.{IsOldOrSame}
use Rattle.engine.specs.Indexes.{AddPasses, CommitPasses, CrashLeavesEither, IndexRests, IndexStands, IsOpened, KeepsFile, KeepsMaking, analyzer_of, device_after, device_of, schema_of, settings_of}
use Rattle.engine.specs.Merges.{MergePasses}
use Rattle.engine.specs.declared.index.Index.{Index}
use Rattle.engine.specs.declared.refused_opening.Refused.{Refused}
use Rattle.histories.specs.Lists.{HasLists, ImagesHaveLists}

-- ---- what a call answers

-- that it was done, the hits, or how many documents match
pub data Answer : Type 0 where
  done : Answer
  hits : List (ℤ × Named) → Answer
  number : ℕ → Answer

-- what a plain scan of the committed documents answers to a search or a count; other calls are done
abbrev pub answer_to : calls.Configuration → State → calls.Call → Answer
answer_to c s (calls.search_best q k) = hits (map scored (scan c.schema c.analyze c.similarity (committed s) q k))
answer_to c s (calls.count_all q) = number (scan_count c.schema c.analyze (committed s) q)
answer_to c s call = done

-- how a call ended, whatever it answered
abbrev pub ending : Result Answer Fault → Result ⊤ Fault
ending (Ok answer) = Ok tt
ending (Err fault) = Err fault

-- how a call ended that answers so where it isn't refused
abbrev pub outcome_of : {T : Type 0} → (T → Answer) → Result T Fault → Result Answer Fault
outcome_of answer (Ok t) = Ok (answer t)
outcome_of answer (Err fault) = Err fault

-- What a call tells of an index that stands for x: the definitions' answer, or their refusal, and no other, but where
-- memory, the device or a limit is why.
pub record IsTold (c : calls.Configuration) (x : calls.Index) (call : calls.Call) (outcome : Result Answer Fault) : Type 0 where
  pub answered : IfOk outcome (λ answer. answer ≡ answer_to c x.state call)
  pub exact : IfErr outcome (λ fault. fault ≢ faults.OutOfMemory → fault ≢ faults.Device → fault ≢ faults.Limit
      → calls.call_fault c x call ≡ Some fault)

-- what passes a limit where a call is refused by one; a call that writes nothing has none
abbrev pub Passes : {D A : Type 0} {d : devices.Ghosts D} {a : analyzers.Ghosts A} → (A → Analyzer)
    → calls.Configuration → calls.Index → Index D A d a → calls.Call → Type 0
Passes analyze c x index (calls.add_json text) =
    (doc : Document) × (read_json c.schema text ≡ Ok doc) × AddPasses c x.state index doc
Passes analyze c x index (calls.add_value value) =
    (doc : Document) × (read_data c.schema value ≡ Ok doc) × AddPasses c x.state index doc
Passes analyze c x index (calls.add_document doc) = AddPasses c x.state index doc
Passes analyze c x index calls.commit_pending = CommitPasses c x.state index
Passes analyze c x index (calls.merge_range from to) = MergePasses analyze c x.state from to index
Passes analyze c x index (calls.delete_term t) = ⊥
Passes analyze c x index (calls.search_best q k) = ⊥
Passes analyze c x index (calls.count_all q) = ⊥

-- ---- what it leaves

-- the second where there is a refusal, else the first
abbrev pub unless_refused : {X : Type 0} → Option Fault → X → X → X
unless_refused None new old = new
unless_refused (Some fault) new old = old

-- the groups that a call puts in place of those that are committed; where it is refused, these themselves
abbrev pub groups_after : calls.Configuration → calls.Index → calls.Call → List (List Document)
groups_after c x call = unless_refused (calls.call_fault c x call) (calls.after c x.state call).groups x.state.groups

-- a call was made of the old index, had this outcome and left the new one
pub record IsCalled {D A : Type 0} {d : devices.Ghosts D} {a : analyzers.Ghosts A} (analyze : A → Analyzer)
    (old new : Index D A d a) (call : calls.Call) (outcome : Result Answer Fault) : Type 0 where
  -- an index that stood for x stands for what the definitions let the call leave, and it answers what they do
  pub stands :
      (c : calls.Configuration) (x : calls.Index) → IndexStands analyze old c x
      → (y : calls.Index) × calls.Leaves c x call (ending outcome) y
      × IsTold c x call outcome × IndexStands analyze new c y
  -- the device is told only where it failed, and a limit only where it would be passed
  pub cause :
      (c : calls.Configuration) (x : calls.Index) → IndexStands analyze old c x
      → HasCause (d.failed (device_of old)) (d.failed (device_of new)) outcome
  pub limit :
      (c : calls.Configuration) (x : calls.Index) → IndexStands analyze old c x
      → IfErr outcome (λ fault. fault ≡ faults.Limit → Passes analyze c x old call)
  pub made : KeepsMaking old new
  pub honest : d.honest (device_of new) ≡ d.honest (device_of old)
  -- an error leaves the file as it is, but for a failure of the device
  pub kept : IfErr outcome (λ fault. fault ≢ faults.Device → KeepsFile old new)
  -- a file that rests rests again
  pub rests :
      (c : calls.Configuration) (x : calls.Index) → IndexStands analyze old c x
      → IsTrue (d.honest (device_of old)) → IndexRests old → OnOk outcome (IndexRests new)
  -- a crash at any moment of the call leaves a file of the groups before it, or of those that it puts in their place
  pub any_moment :
      (c : calls.Configuration) (x : calls.Index) → IndexStands analyze old c x
      → IsTrue (d.honest (device_of old)) → IndexRests old
      → CrashLeavesEither analyze old new x.state.groups (groups_after c x call)
  -- where every record of each image gives its list, so it is at every moment of the call
  pub lists :
      (c : calls.Configuration) (x : calls.Index) → IndexStands analyze old c x
      → IsTrue (d.honest (device_of old)) → IndexRests old → ImagesHaveLists analyze old
      → LeavesOnly d.moment d.left_since (device_of old) (device_of new)
      (HasLists (schema_of old) (settings_of old) (analyze (analyzer_of old)))

-- an opening of the file of a device ended so
pub record IsOpening {D A : Type 0} {d : devices.Ghosts D} {a : analyzers.Ghosts A} (analyze : A → Analyzer)
    (analyzer : Analyzer) (device : D) (result : Result (Index D A d a) (Refused D A)) : Type 0 where
  pub opened : IfOk result (IsOpened analyze analyzer device)
  pub honest : d.honest (device_after result) ≡ d.honest device
  -- at every moment a crash leaves what it might have left before, or a file of the bodies that were read
  pub images :
      IsTrue (d.honest device)
      → LeavesOnly d.moment d.left_since device (device_after result) (IsOldOrSame d.content d.unsynced device)
