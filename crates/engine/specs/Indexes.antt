-- An index as its calls speak of it: what it is made of and stands for, its device, and the file on it.
use Rattle.std.specs.Prelude.{[], ⊤, ◌++◌, ◌+◌, ◌<◌, ◌^◌, ◌∷◌, ◌≡◌, ◌≤◌, ◌⊎◌, Err, IsTrue, List, Ok, Result, length, ℕ, ℤ}
use Rattle.std.specs.List.{AllZip}
use Rattle.std.specs.declared.alloc.Global.{Global}
use Rattle.common.specs.declared.analyzer.Analyzer as analyzers
use Rattle.common.specs.declared.device.Device as devices
use Rattle.definitions.specs.Analyzers.{Analyzer}
use Rattle.definitions.specs.Calls as calls
use Rattle.definitions.specs.Schema.{Schema}
use Rattle.definitions.specs.Settings.{Settings}
use Rattle.definitions.specs.State.{State}
use Rattle.definitions.specs.Step.{configuration_of, reopened}
use Rattle.definitions.specs.Stored.{Named}
use Rattle.definitions.specs.Values.{Document}
use Rattle.definitions.specs.declared.fault.Fault.{Fault}
use Rattle.layouts.specs.RecordFiles.{IsAtRest}
use Rattle.index_file.specs.Frames.{frame_bytes}
use Rattle.index_file.specs.Kept.{LeavesNow}
use Rattle.index_state.specs.Limits.{TermsPass}
use Rattle.index_state.specs.Pending.{open_docs}
use Rattle.index_state.specs.Records.{RecordsCall, RecordsSegments}
use Rattle.index_state.specs.Standing as collections
use Rattle.engine.specs.Files.{LeavesEither, LeavesEitherList, LeavesMembers, Rests}
use Rattle.engine.specs.declared.index.Index.{Index}
use Rattle.engine.specs.declared.refused_opening.Refused.{Refused}
use Rattle.segment_definitions.specs.ListBodies.{Member}
use Rattle.segment_definitions.specs.IndexFiles.{IsGroup, LeavesGroups}

module _ {D A : Type 0} {d : devices.Ghosts D} {a : analyzers.Ghosts A} where
  -- ---- what it is made of

  -- what cuts its texts
  abbrev pub analyzer_of : Index D A d a → A
  analyzer_of index = collections.analyzer_of index.index_state

  -- its fields
  abbrev pub schema_of : Index D A d a → Schema
  schema_of index = collections.schema_of index.index_state

  -- its numbers for scores and segments
  abbrev pub settings_of : Index D A d a → Settings
  settings_of index = collections.settings_of index.index_state

  -- what it takes memory from
  abbrev pub alloc_of : Index D A d a → Global
  alloc_of index = collections.alloc_of index.index_state

  -- analyzer, fields and settings are as before
  abbrev pub KeepsMaking : Index D A d a → Index D A d a → Type 0
  KeepsMaking old new = collections.IsMadeAlike old.index_state new.index_state

  -- ---- what it stands for

  -- it has this configuration, these documents committed, these waiting, and this status
  abbrev pub IndexStands : (A → Analyzer) → Index D A d a → calls.Configuration → calls.Index → Type 0
  IndexStands analyze index c x = collections.Stands analyze index.index_state c x

  -- what may still be done
  abbrev pub state_of : Index D A d a → calls.Status
  state_of index = collections.state_of index.index_state

  -- the segments that are committed, each with a flag for each of its documents
  abbrev pub members_of : Index D A d a → List Member
  members_of index = collections.members_of index.index_state

  -- what hits show that a search of it may answer, whatever documents its segments are of
  abbrev pub AreHitsOf : Index D A d a → ℕ → List (ℤ × Named) → Type 0
  AreHitsOf index k hits = collections.AreHitsOf index.index_state k hits

  -- the slot of this document is too long beside a block
  abbrev pub HasLongSlot : Index D A d a → Document → Type 0
  HasLongSlot index doc = collections.HasLongSlot index.index_state doc

  -- a limit that an add of this document meets: its slot is too long, or it passes one behind the documents of the
  -- segment that isn't full
  abbrev pub AddPasses : calls.Configuration → State → Index D A d a → Document → Type 0
  AddPasses c s index doc = collections.AddPasses c s index.index_state doc

  -- ---- its file

  -- what its file lies on
  abbrev pub device_of : Index D A d a → D
  device_of index = index.file.device

  -- the offset of the file's closed gate
  abbrev pub gate_of : Index D A d a → ℕ
  gate_of index = index.file.gate

  -- device and gate are as before, and the segments that are committed
  abbrev pub KeepsFile : Index D A d a → Index D A d a → Type 0
  KeepsFile old new = (device_of new ≡ device_of old) × (gate_of new ≡ gate_of old) × (members_of new ≡ members_of old)

  -- the file leaves the segments that are committed, its closed gate at its offset and nothing after it, and all of it
  -- is on the disk
  abbrev pub IndexRests : Index D A d a → Type 0
  IndexRests index =
      Rests (schema_of index) (settings_of index) (members_of index)
      (d.content (device_of index)) (d.unsynced (device_of index)) (gate_of index)

  -- over an honest device a ready index rests in its file
  abbrev pub IsInFile : Index D A d a → calls.Index → Type 0
  IsInFile index x = IsTrue (d.honest (device_of index)) → x.status ≡ calls.ready → IndexRests index

  -- a file with nothing after its closed gate has one record more: that of the call, which makes the segments that are
  -- committed then
  abbrev pub AppendsRecord : calls.Configuration → State → calls.Call → Index D A d a → Index D A d a → Type 0
  AppendsRecord c s call old new =
      (bodies : List (List ℕ)) → IsAtRest (d.content (device_of old)) (gate_of old) bodies
      → (body : List ℕ) × RecordsCall c s call (members_of old) (members_of new) body
      × IsAtRest (d.content (device_of new)) (gate_of new) (bodies ++ body ∷ [])

  -- with the record of the call the file would pass 2^63 bytes
  abbrev pub PassesFile : calls.Configuration → State → calls.Call → Index D A d a → Type 0
  PassesFile c s call index =
      (after : List Member) × (body : List ℕ) × RecordsCall c s call (members_of index) after body
      × (2 ^ 63 < gate_of index + 1 + length (frame_bytes body))

  -- a limit that a commit meets: in the documents of the segment that isn't full, in how many groups there are afterwards,
  -- or in the bytes of the file
  abbrev pub CommitPasses : calls.Configuration → State → Index D A d a → Type 0
  CommitPasses c s index =
      TermsPass c.schema c.analyze (open_docs c.docs_per_segment s.pending)
      ⊎ (2 ^ 32 ≤ length (calls.after c s calls.commit_pending).groups)
      ⊎ PassesFile c s calls.commit_pending index

  -- a crash at any moment from the old index to the new one leaves a file of the one or the other groups
  abbrev pub CrashLeavesEither : (A → Analyzer) → Index D A d a → Index D A d a → List (List Document) → List (List Document) → Type 0
  CrashLeavesEither analyze old new one other =
      LeavesEither d.moment d.left_since (device_of old) (device_of new) (schema_of old) (settings_of old)
      (analyze (analyzer_of old)) one other

  -- each image that a crash may leave now is a file whose every record gives its list, and the last one these groups
  abbrev pub ImagesLeave : (A → Analyzer) → Index D A d a → List (List Document) → Type 0
  ImagesLeave analyze index groups =
      LeavesNow d.content d.unsynced (device_of index)
      (λ image. LeavesGroups (schema_of index) (settings_of index) (analyze (analyzer_of index)) image groups)

  -- it stands for these groups, none waiting, and each image that a crash may leave now gives them
  pub record IsReopened (analyze : A → Analyzer) (index : Index D A d a) (c : calls.Configuration)
      (groups : List (List Document)) : Type 0 where
    pub stands : IndexStands analyze index c (reopened groups)
    pub images : ImagesLeave analyze index groups

  -- the segments that the file of the device leaves are committed, and nothing waits: whatever documents they are of
  pub record IsOpened (analyze : A → Analyzer) (analyzer : Analyzer) (device : D) (index : Index D A d a) : Type 0 where
    pub stands :
        (groups : List (List Document)) → AllZip (IsGroup (schema_of index) analyzer) (members_of index) groups
        → IndexStands analyze index (configuration_of (schema_of index) analyzer (settings_of index)) (reopened groups)
    pub file : IsTrue (d.honest device) → LeavesMembers (schema_of index) (settings_of index) (members_of index) (d.content device)
    pub rests : IsTrue (d.honest device) → IndexRests index

  -- ---- of any index, whatever documents its segments are of

  -- all calls are taken, and nothing waits
  abbrev pub IsIdle : Index D A d a → Type 0
  IsIdle index = collections.IsIdle index.index_state

  -- made alike, the same segments are committed, the same waits, and the same may still be done
  abbrev pub IsSame : Index D A d a → Index D A d a → Type 0
  IsSame old new = collections.IsSame old.index_state new.index_state

  -- made alike, the same segments are committed, and no more may be done than in this status, in which what waits is
  -- lost
  abbrev pub IsStopped : calls.Status → Index D A d a → Index D A d a → Type 0
  IsStopped status old new = collections.IsStopped status old.index_state new.index_state

  -- what waits and what may still be done are as before
  abbrev pub KeepsWaiting : Index D A d a → Index D A d a → Type 0
  KeepsWaiting old new =
      (collections.waiting_of new.index_state ≡ collections.waiting_of old.index_state) × (state_of new ≡ state_of old)

  -- the document waits behind the documents that waited
  abbrev pub WaitsMore : (A → Analyzer) → Document → Index D A d a → Index D A d a → Type 0
  WaitsMore analyze doc old new = collections.WaitsMore analyze doc old.index_state new.index_state

  -- a deletion by the term waits behind what waited
  abbrev pub DeletesMore : List ℕ → Index D A d a → Index D A d a → Type 0
  DeletesMore term old new = collections.DeletesMore term old.index_state new.index_state

  -- what its calls are refused by, the definitions say of any state with its status and as many groups as segments are
  -- committed, whatever these groups are
  abbrev pub IsShadow : (A → Analyzer) → Index D A d a → calls.Configuration → calls.Index → Type 0
  IsShadow analyze index c x = collections.IsShadow analyze index.index_state c x

  -- the segments that are committed, or those that a body of the call makes of them
  abbrev pub AreNext : calls.Call → Index D A d a → List Member → Type 0
  AreNext call index after =
      (after ≡ members_of index)
      ⊎ ((body : List ℕ) × RecordsSegments (schema_of index) call (members_of index) after body)

  -- a file with nothing after its closed gate has one record more: that of the call, which makes the segments that are
  -- committed then
  abbrev pub AppendsSegments : calls.Call → Index D A d a → Index D A d a → Type 0
  AppendsSegments call old new =
      (bodies : List (List ℕ)) → IsAtRest (d.content (device_of old)) (gate_of old) bodies
      → (body : List ℕ) × RecordsSegments (schema_of old) call (members_of old) (members_of new) body
      × IsAtRest (d.content (device_of new)) (gate_of new) (bodies ++ body ∷ [])

  -- a crash at any moment from the old index to the new one leaves a file of the segments before or of these
  abbrev pub CrashLeavesSegments : Index D A d a → Index D A d a → List Member → Type 0
  CrashLeavesSegments old new after =
      LeavesEitherList d.moment d.left_since (device_of old) (device_of new) (schema_of old) (settings_of old)
      (members_of old) after

  -- ---- what a call hands back that makes or opens an index, or refuses to

  -- the device: that of the index, or the one that is handed back
  abbrev pub device_after : Result (Index D A d a) (Refused D A) → D
  device_after (Ok index) = device_of index
  device_after (Err refused) = refused.device

  -- and the analyzer
  abbrev pub analyzer_after : Result (Index D A d a) (Refused D A) → A
  analyzer_after (Ok index) = analyzer_of index
  analyzer_after (Err refused) = refused.analyzer

  -- how the call ended
  abbrev pub ending_of : Result (Index D A d a) (Refused D A) → Result ⊤ Fault
  ending_of (Ok index) = Ok tt
  ending_of (Err refused) = Err refused.fault
