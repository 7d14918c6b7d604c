-- What a session stands for, and what it answers.
use Rattle.std.specs.Prelude.{[], ⊤, ◌≡◌, ◌≢◌, ◌⊎◌, Bool, Err, IfErr, IfOk, IsErrOf, IsTrue, List, None, Ok, OnOk, Option, Result, Some, false, option_map, true, ℕ}
use Rattle.std.specs.Cow.{cow_str_bytes}
use Rattle.std.specs.declared.borrow.CowStr.{CowStr}
use Rattle.common.specs.declared.analyzer.Analyzer as analyzers
use Rattle.common.specs.declared.device.Device as devices
use Rattle.definitions.specs.Analyzers.{Analyzer}
use Rattle.definitions.specs.Calls as calls
use Rattle.definitions.specs.Disk.{HasCause}
use Rattle.definitions.specs.Replies.{reply_of}
use Rattle.definitions.specs.Replying.{stops}
use Rattle.definitions.specs.Requests as requests
use Rattle.definitions.specs.Schema.{Schema}
use Rattle.definitions.specs.SchemaGrammar.{schema_in}
use Rattle.definitions.specs.Settings.{Settings}
use Rattle.definitions.specs.Step as steps
use Rattle.definitions.specs.declared.fault.Fault.{Fault}
use Rattle.definitions.specs.declared.fault.Fault.TheVariants as faults
use Rattle.engine.specs.Files.{IsFileOf}
use Rattle.engine.specs.Indexes.{IndexStands, IsInFile, analyzer_of, device_of, ending_of, schema_of, settings_of}
use Rattle.index_file.specs.Kept.{IsKept}
use Rattle.index_file.specs.Outcomes.{IsRefusal}
use Rattle.index.specs.Replying.{GoesOn, IndexMeets, MayClose, MayStay, change_text, closed_index, closed_writer}
use Rattle.engine.specs.declared.index.Index.{Index}
use Rattle.engine.specs.declared.refused_opening.Refused.{Refused}
use Rattle.index.specs.declared.session.Session.{Session}
use Rattle.index.specs.declared.stage.Stage.{Stage}
use Rattle.index.specs.declared.stage.Stage.TheVariants.{Spare, Standing}
use Rattle.segment_definitions.specs.IndexFiles.{TakesSegments}
use Rattle.serde_json.specs.Data as json

-- an honest device that holds this: no byte, or a file of these groups, as this analyzer cuts texts, or these bytes, from
-- which no index is opened: they are none, or damaged
abbrev pub HasHeld : {D : Type 0} → (D → Bool) → (D → List ℕ) → Analyzer → D → steps.Held → Type 0
HasHeld honest content analyze device steps.no_file = IsTrue (honest device) × (content device ≡ [])
HasHeld honest content analyze device (steps.file_of schema settings groups) =
    IsTrue (honest device) × IsFileOf schema settings analyze groups (content device)
HasHeld honest content analyze device (steps.other_bytes bytes fault) =
    IsTrue (honest device) × (content device ≡ bytes) × (bytes ≢ []) × IsRefusal TakesSegments bytes fault

-- what an analyzer knows, and how it cuts a text
abbrev pub analysis_of : {A : Type 0} → (A → List ℕ → Bool) → (A → Analyzer) → A → steps.Analysis
analysis_of knows analyze analyzer = record { knows = knows analyzer; analyze = analyze analyzer }

-- a session in which no index stands, over a device that holds this
abbrev pub session_on : steps.Analysis → steps.Held → steps.Session
session_on a held = record { analysis = a; stage = steps.no_index held }

-- a session in which an index stands
abbrev pub session_of : steps.Analysis → Schema → Settings → calls.Index → steps.Session
session_of a schema settings x = record { analysis = a; stage = steps.index_of schema settings x }

-- an index is ready, or else it is known by the file of its device, which says what is committed
abbrev pub IsKnown :
    {D : Type 0} → (D → Bool) → (D → List ℕ) → Analyzer → D → Schema → Settings → calls.Index → Type 0
IsKnown honest content analyze device schema settings x =
    (x.status ≡ calls.ready) ⊎ HasHeld honest content analyze device (steps.file_of schema settings x.state.groups)

-- the device holds this, and the analyzer is the session's
abbrev pub IsSpare :
    {D A : Type 0} → (D → Bool) → (D → List ℕ) → (A → List ℕ → Bool) → (A → Analyzer)
    → steps.Analysis → D → A → steps.Held → Type 0
IsSpare honest content knows analyze a device analyzer held =
    (a ≡ analysis_of knows analyze analyzer) × HasHeld honest content a.analyze device held

module _ {D A : Type 0} {d : devices.Ghosts D} {an : analyzers.Ghosts A} where
  -- the device of what stands
  abbrev pub device_on : Stage D A d an → D
  device_on (Spare device analyzer) = device
  device_on (Standing index) = device_of index

  -- that device is honest, and holds this
  abbrev pub HoldsOn : Analyzer → Option (Stage D A d an) → steps.Held → Type 0
  HoldsOn analyze None held = ⊥
  HoldsOn analyze (Some stage) held = HasHeld d.honest d.content analyze (device_on stage) held

module _ {D A : Type 0} {d : devices.Ghosts D} {an : analyzers.Ghosts A} (knows : A → List ℕ → Bool) (analyze : A → Analyzer) where
  -- the index stands for this one; one that is closed, which takes no call, stands for any that is
  abbrev pub StandsAs : Index D A d an → calls.Configuration → calls.Index → Type 0
  StandsAs index c x =
      IndexStands analyze index c x
      ⊎ ((x.status ≡ calls.closed) × (y : calls.Index) × (y.status ≡ calls.closed) × IndexStands analyze index c y)

  -- the index is made of these, stands for this one, and has in its file what is committed
  pub record IsIndex (a : steps.Analysis) (index : Index D A d an) (schema : Schema) (settings : Settings) (x : calls.Index)
      : Type 0 where
    pub analysis : a ≡ analysis_of knows analyze (analyzer_of index)
    pub fields : schema_of index ≡ schema
    pub numbers : settings_of index ≡ settings
    pub stands : StandsAs index (steps.configuration_of schema a.analyze settings) x
    pub rests : IsInFile index x
    pub known : IsKnown d.honest d.content a.analyze (device_of index) schema settings x

  -- what stands on a device stands for this
  abbrev pub IsStage : steps.Analysis → Stage D A d an → steps.Stage → Type 0
  IsStage a (Spare device analyzer) (steps.no_index held) =
      IsSpare d.honest d.content knows analyze a device analyzer held
  IsStage a (Spare device analyzer) (steps.index_of schema settings x) = ⊥
  IsStage a (Standing index) (steps.no_index held) = ⊥
  IsStage a (Standing index) (steps.index_of schema settings x) = IsIndex a index schema settings x

  -- a stage stands, and is the one of the definitions
  abbrev pub HasStage : steps.Analysis → Option (Stage D A d an) → steps.Stage → Type 0
  HasStage a None s = ⊥
  HasStage a (Some stage) s = IsStage a stage s

  -- over a device that held this an index was to be made or opened: unless that met a fault that stops, it is told by
  -- this reply, and this is what stands; after any error no index stands, and but for `Device` the device holds what it
  -- held
  pub record LeavesStage (a : steps.Analysis) (held : steps.Held) (stage : Option (Stage D A d an)) (change : Result ⊤ Fault)
      (p : json.Data × steps.Stage) : Type 0 where
    pub told : GoesOn change → (change_text change ≡ reply_of p.0) × HasStage a stage p.1
    pub spare : IfErr change (λ fault. fault ≢ faults.Device → HasStage a stage (steps.no_index held))
    pub emptied :
        IsErrOf change faults.Device
        → (now : steps.Held) → HoldsOn a.analyze stage now → HasStage a stage (steps.no_index now)

module _ {D A : Type 0} {d : devices.Ghosts D} {an : analyzers.Ghosts A} where
  -- how often the device of what stands failed
  abbrev pub failures_on : Option (Stage D A d an) → ℕ
  failures_on None = 0
  failures_on (Some stage) = d.failed (device_on stage)

  -- whether it is honest
  abbrev pub honest_on : Option (Stage D A d an) → Bool
  honest_on None = false
  honest_on (Some stage) = d.honest (device_on stage)

  -- the device of what stands is as it was: so are its bytes, and what a crash may leave of them
  abbrev pub KeepsDevice : Option (Stage D A d an) → Option (Stage D A d an) → Type 0
  KeepsDevice (Some old) (Some new) = IsKept d.moment d.left_since d.content d.unsynced (device_on old) (device_on new)
  KeepsDevice _ _ = ⊥

  -- the analyzer of what stands
  abbrev pub analyzer_on : Stage D A d an → A
  analyzer_on (Spare device analyzer) = analyzer
  analyzer_on (Standing index) = analyzer_of index

  -- device and analyzer
  abbrev pub parts_on : Option (Stage D A d an) → Option (D × A)
  parts_on stage = option_map (λ s. (device_on s, analyzer_on s)) stage

  -- an add, a merge or a commit of the index that stands meets a limit
  abbrev pub MeetsLimit : (A → Analyzer) → steps.Analysis → Option (Stage D A d an) → steps.Stage → Option requests.Request → Type 0
  MeetsLimit analyze a (Some (Standing index)) (steps.index_of schema settings x) asked =
      IndexMeets analyze index (steps.configuration_of schema a.analyze settings) x asked
  MeetsLimit analyze a _ _ _ = ⊥

  -- what stands after an index was to be made or opened
  abbrev pub stage_after : Result (Index D A d an) (Refused D A) → Stage D A d an
  stage_after (Ok index) = Standing index
  stage_after (Err refused) = Spare refused.device refused.analyzer

  -- and whether it was
  abbrev pub left_by : Result (Index D A d an) (Refused D A) → Stage D A d an × Result ⊤ Fault
  left_by outcome = (stage_after outcome, ending_of outcome)

-- the session has the analyzer, and what it has stands for this
abbrev pub StandsFor :
    {D A : Type 0} {d : devices.Ghosts D} {a : analyzers.Ghosts A} → Session D A d a → steps.Session → Type 0
StandsFor {a = a} session s = HasStage a.knows_name a.analyze s.analysis session.stage s.stage

-- how often the device of a session failed
abbrev pub failures_of : {D A : Type 0} {d : devices.Ghosts D} {a : analyzers.Ghosts A} → Session D A d a → ℕ
failures_of session = failures_on session.stage

-- whether that device is honest
abbrev pub honest_of : {D A : Type 0} {d : devices.Ghosts D} {a : analyzers.Ghosts A} → Session D A d a → Bool
honest_of session = honest_on session.stage

-- that device is as it was
abbrev pub KeepsDeviceOf :
    {D A : Type 0} {d : devices.Ghosts D} {a : analyzers.Ghosts A} → Session D A d a → Session D A d a → Type 0
KeepsDeviceOf old new = KeepsDevice old.stage new.stage

-- the device and the analyzer of a session
abbrev pub parts_of :
    {D A : Type 0} {d : devices.Ghosts D} {a : analyzers.Ghosts A} → Session D A d a → Option (D × A)
parts_of session = parts_on session.stage

-- an add, a merge or a commit meets a limit in what stands
abbrev pub MeetsLimitIn :
    {D A : Type 0} {d : devices.Ghosts D} {a : analyzers.Ghosts A} → Session D A d a → steps.Session → Option requests.Request → Type 0
MeetsLimitIn {a = a} session s asked = MeetsLimit a.analyze s.analysis session.stage s.stage asked

-- a line meets a limit in what stands
abbrev pub MeetsLimitAt :
    {D A : Type 0} {d : devices.Ghosts D} {a : analyzers.Ghosts A} → Session D A d a → steps.Session → List ℕ → Type 0
MeetsLimitAt session s line = MeetsLimitIn session s (steps.line_request line)

-- what is asked may leave no index where none is ready: one is to be opened, or made of a schema and settings that are
-- read
abbrev pub MayDrop : Option requests.Request → Type 0
MayDrop (Some (requests.create_index value more)) =
    (schema : Schema) × (schema_in value ≡ Ok schema)
    × (settings : Settings) × (steps.settings_sent schema more ≡ Ok settings)
MayDrop (Some requests.open_index) = ⊤
MayDrop _ = ⊥

-- what is asked is that an index is made, or opened
abbrev pub MakesIndex : Option requests.Request → Type 0
MakesIndex (Some (requests.create_index value more)) = ⊤
MakesIndex (Some requests.open_index) = ⊤
MakesIndex _ = ⊥

-- the writer of what stood is closed, which what was asked may do
abbrev pub ClosesWriter : Analyzer → Option requests.Request → steps.Stage → steps.Stage → Type 0
ClosesWriter analyze asked (steps.no_index held) new = ⊥
ClosesWriter analyze asked (steps.index_of schema settings x) new =
    MayClose (steps.configuration_of schema analyze settings) settings x asked
    × (new ≡ steps.index_of schema settings (closed_writer x))

-- what was asked leaves all that stood
abbrev pub MayStayAt : steps.Stage → Option requests.Request → Fault → Type 0
MayStayAt (steps.no_index held) asked fault = ⊤
MayStayAt (steps.index_of schema settings x) asked fault = MayStay schema settings asked fault

-- what memory that ran out or a limit leaves of what stood, by what was asked: all of it, an index with its writer
-- closed, or, where none was ready, no index over the same file
abbrev pub IsLeftStage : Analyzer → Option requests.Request → Fault → steps.Stage → steps.Stage → Type 0
IsLeftStage analyze asked fault old new =
    (MayStayAt old asked fault × (new ≡ old)) ⊎ ClosesWriter analyze asked old new
    ⊎ (MayDrop asked × (steps.is_ready old ≡ false) × (new ≡ steps.no_index (steps.held_by old)))

-- and of a session
abbrev pub IsLeft : steps.Session → Option requests.Request → Fault → steps.Session → Type 0
IsLeft s asked fault t =
    (t.analysis ≡ s.analysis) × IsLeftStage s.analysis.analyze asked fault s.stage t.stage

-- a stage whose index is closed
abbrev pub closed_stage : steps.Stage → steps.Stage
closed_stage (steps.no_index held) = steps.no_index held
closed_stage (steps.index_of schema settings x) = steps.index_of schema settings (closed_index x)

abbrev pub closed_session : steps.Session → steps.Session
closed_session s = record s { stage = closed_stage s.stage }

-- the reply to what was asked is the definitions', and the session stands for what comes after; `Device` has its cause,
-- and `Limit` is the answer to an add, a merge or a commit that meets one; over an honest device the session stands for what
-- other errors leave
pub record Replies {D A Z : Type 0} {d : devices.Ghosts D} {a : analyzers.Ghosts A} (old new : Session D A d a)
    (s : steps.Session) (asked : Option requests.Request) (result : Result (CowStr Z) Fault) : Type 0 where
  pub text : IfOk result (λ text. cow_str_bytes text ≡ reply_of ((steps.step s asked).0))
  pub state : OnOk result (StandsFor new ((steps.step s asked).1))
  pub honest : honest_of new ≡ honest_of old
  pub failures : HasCause (failures_of old) (failures_of new) result
  pub limit : IsErrOf result faults.Limit → MeetsLimitIn old s asked
  pub left :
      IsTrue (honest_of old)
      → IfErr result (λ fault. fault ≢ faults.Device
      → (t : steps.Session) × IsLeft s asked fault t × StandsFor new t)
  -- where a ready index met a failed device it is closed, over a file of what was committed before or after
  pub failed :
      IsTrue (honest_of old) → steps.is_ready s.stage ≡ true → IsErrOf result faults.Device
      → StandsFor new (closed_session s) ⊎ StandsFor new (closed_session ((steps.step s asked).1))
  -- where one was to be made or opened no index stands after `Device`, over whatever the device holds then
  pub emptied :
      MakesIndex asked → IsErrOf result faults.Device
      → (now : steps.Held) → HoldsOn s.analysis.analyze new.stage now → StandsFor new (session_on s.analysis now)
