-- What a line comes to whatever documents the segments of an index are of: a slot may be damaged, or postings match none.
use Rattle.std.specs.Prelude.{[], ⊤, ◌||◌, ◌≡◌, ◌≢◌, ◌⊎◌, Bool, Err, IfErr, IfOk, IsTrue, List, None, Ok, OnOk, Option, Result, Some, false, map, true, ℕ, ℤ}
use Rattle.std.specs.Cow.{cow_str_bytes}
use Rattle.std.specs.declared.borrow.CowStr.{CowStr}
use Rattle.common.specs.declared.analyzer.Analyzer as analyzers
use Rattle.common.specs.declared.device.Device as devices
use Rattle.definitions.specs.Analyzers.{Analyzer}
use Rattle.definitions.specs.Calls as calls
use Rattle.definitions.specs.FaultNames.{reply_text}
use Rattle.definitions.specs.Making.{are_analyzed, making_fault}
use Rattle.definitions.specs.Reading.{read_data}
use Rattle.definitions.specs.Replies.{count_reply, hits_reply, ok_reply, reply_of}
use Rattle.definitions.specs.Replying.{stops}
use Rattle.definitions.specs.Requests as requests
use Rattle.definitions.specs.Schema.{Schema}
use Rattle.definitions.specs.SchemaGrammar.{schema_in}
use Rattle.definitions.specs.Settings.{Settings}
use Rattle.definitions.specs.Step as steps
use Rattle.definitions.specs.Stored.{Named}
use Rattle.definitions.specs.Values.{Document}
use Rattle.definitions.specs.declared.fault.Fault.{Fault}
use Rattle.definitions.specs.declared.fault.Fault.TheVariants as faults
use Rattle.engine.specs.Files.{IsCreateRefusal, IsOpenFault, IsOpenRefusal}
use Rattle.engine.specs.Indexes.{AreHitsOf, DeletesMore, IndexStands, IsIdle, IsOpened, IsSame, IsShadow, IsStopped, KeepsFile, KeepsMaking, KeepsWaiting, WaitsMore, analyzer_after, analyzer_of, schema_of, settings_of, state_of}
use Rattle.engine.specs.Writes.{WritesSegments}
use Rattle.engine.specs.declared.index.Index.{Index}
use Rattle.engine.specs.declared.refused_opening.Refused.{Refused}
use Rattle.index.specs.Replying.{HasLongSlot}
use Rattle.index.specs.Sessions.{analysis_of, analyzer_on, device_on, left_by}
use Rattle.index.specs.declared.session.Session.{Session}
use Rattle.index.specs.declared.stage.Stage.{Stage}
use Rattle.index.specs.declared.stage.Stage.TheVariants.{Spare, Standing}
use Rattle.reply_texts.specs.ToldHits.{told}
use Rattle.serde_json.specs.Data as json

-- ---- what is told

-- an outcome is told by its reply, but for a fault that stops; and memory for the reply may be wanting
abbrev pub Tells : {Z : Type 0} → Result json.Data Fault → Result (CowStr Z) Fault → Type 0
Tells (Ok said) (Ok text) = cow_str_bytes text ≡ reply_of said
Tells (Ok said) (Err e) = e ≡ faults.OutOfMemory
Tells (Err fault) (Ok text) = (stops fault ≡ false) × (cow_str_bytes text ≡ reply_text fault)
Tells (Err fault) (Err e) = IsTrue (stops fault) × (e ≡ fault)

-- an outcome, where it is given what is said of an answer
abbrev pub saying : {T : Type 0} → Result T Fault → (T → json.Data) → Result json.Data Fault
saying (Ok t) said = Ok (said t)
saying (Err fault) said = Err fault

-- that of a change
abbrev pub saying_done : Result ⊤ Fault → Result json.Data Fault
saying_done change = saying change (λ done. ok_reply)

-- ---- a request to the index that stands

-- what is said of a call that an index made: hits that it may answer, a number, or that it was done
module _ {D A : Type 0} {d : devices.Ghosts D} {an : analyzers.Ghosts A} (index : Index D A d an) where
  abbrev pub IsAnswer : calls.Call → json.Data → Type 0
  IsAnswer (calls.search_best q k) said = (hits : List (ℤ × Named)) × AreHitsOf index k hits × (said ≡ hits_reply (map told hits))
  IsAnswer (calls.count_all q) said = (count : ℕ) × (said ≡ count_reply count)
  IsAnswer call said = said ≡ ok_reply

-- whether a request may meet a limit
abbrev pub may_meet_limit : requests.Request → Bool
may_meet_limit (requests.add_doc value) = true
may_meet_limit (requests.merge_groups from to) = true
may_meet_limit requests.commit_all = true
may_meet_limit r = false

-- or a damaged slot
abbrev pub reads_slots : requests.Request → Bool
reads_slots (requests.merge_groups from to) = true
reads_slots (requests.search_docs query k) = true
reads_slots r = false

module _ {D A : Type 0} {d : devices.Ghosts D} {an : analyzers.Ghosts A} (old new : Index D A d an) where
  -- all is as it was, in memory and in the file
  abbrev pub AllStays : Type 0
  AllStays = IsSame old new × KeepsFile old new

  -- memory that ran out or a limit may close the writer: in a commit, or in an add whose document's slot isn't too long
  abbrev pub MayCloseWriter : requests.Request → Type 0
  MayCloseWriter (requests.add_doc value) = ¬ HasLongSlot (schema_of old) (settings_of old) value
  MayCloseWriter requests.commit_all = ⊤
  MayCloseWriter r = ⊥

  -- so that all is as it was, or what waits is lost; what is committed stays
  abbrev pub StaysOrStops : requests.Request → Type 0
  StaysOrStops r =
      KeepsFile old new × (IsSame old new ⊎ (MayCloseWriter r × IsStopped calls.writer_closed old new))

module _ {D A : Type 0} {d : devices.Ghosts D} {an : analyzers.Ghosts A} (analyze : A → Analyzer) (old new : Index D A d an) where
  -- what a call left that was made: a document waits behind what waited, or a deletion; nothing waits once a commit wrote
  -- its record; a merge that wrote its own left what waits
  abbrev pub Makes : calls.Call → Type 0
  Makes (calls.add_value value) =
      ((doc : Document) → read_data (schema_of old) value ≡ Ok doc → WaitsMore analyze doc old new)
      × (state_of new ≡ calls.ready) × KeepsFile old new
  Makes (calls.delete_term term) = DeletesMore term old new × (state_of new ≡ calls.ready) × KeepsFile old new
  Makes calls.commit_pending = IsIdle new × WritesSegments calls.commit_pending old new (Ok tt)
  Makes (calls.merge_range from to) = KeepsWaiting old new × WritesSegments (calls.merge_range from to) old new (Ok tt)
  Makes call = AllStays old new

  -- How a request ended, a case for each way. What the definitions refuse follows from the status, the schema and how
  -- many segments are committed.
  pub data Ends (c : calls.Configuration) (x : calls.Index) (r : requests.Request) : Result json.Data Fault → Type 0 where
    -- a refusal changes nothing
    refused :
        (fault : Fault) → steps.index_step c x r ≡ steps.refusing fault x → AllStays old new → Ends c x r (Err fault)
    answered :
        (call : calls.Call) (said : json.Data) → steps.call_in c.schema r ≡ Ok call → calls.call_fault c x call ≡ None
        → IsAnswer old call said → Makes call → Ends c x r (Ok said)
    -- a damaged slot is told, and all goes on
    slot_damaged : reads_slots r ≡ true → AllStays old new → Ends c x r (Err (faults.Damaged None))
    memory_wanted : StaysOrStops old new r → Ends c x r (Err faults.OutOfMemory)
    limit_met : may_meet_limit r ≡ true → StaysOrStops old new r → Ends c x r (Err faults.Limit)
    -- the index is closed, its file the one before, or with the record
    device_failed :
        (call : calls.Call) → steps.call_in c.schema r ≡ Ok call → (calls.is_commit call || calls.is_merge call) ≡ true
        → WritesSegments call old new (Err faults.Device) → IsStopped calls.closed old new
        → Ends c x r (Err faults.Device)

  -- it is told, and the index is made as before
  pub record IndexComesTo {Z : Type 0} (r : requests.Request) (result : Result (CowStr Z) Fault) : Type 0 where
    pub made : KeepsMaking old new
    pub outcome : Result json.Data Fault
    pub tells : Tells outcome result
    pub ends : (c : calls.Configuration) (x : calls.Index) → IsShadow analyze old c x → Ends c x r outcome

-- ---- what stands

module _ {D A : Type 0} {d : devices.Ghosts D} {an : analyzers.Ghosts A} where
  -- whether an index stands that is ready
  abbrev pub takes_on : Stage D A d an → Bool
  takes_on (Spare device analyzer) = false
  takes_on (Standing index) = steps.takes_calls (state_of index)

  -- whether what may stand takes calls
  abbrev pub takes_in : Option (Stage D A d an) → Bool
  takes_in None = false
  takes_in (Some stage) = takes_on stage

  -- the index that stands
  abbrev pub index_on : Option (Stage D A d an) → Option (Index D A d an)
  index_on None = None
  index_on (Some (Spare device analyzer)) = None
  index_on (Some (Standing index)) = Some index

  -- that of a session
  abbrev pub index_in : Session D A d an → Option (Index D A d an)
  index_in session = index_on session.stage

  -- something stood and stands, of which this holds
  abbrev pub BothStand : (Stage D A d an → Stage D A d an → Type 0) → Option (Stage D A d an) → Option (Stage D A d an) → Type 0
  BothStand P (Some old) (Some new) = P old new
  BothStand P _ _ = ⊥

module _ {D A : Type 0} {d : devices.Ghosts D} {an : analyzers.Ghosts A} (knows : A → List ℕ → Bool) (analyze : A → Analyzer) where
  module _ (device : D) (analyzer : A) where
    -- an index of this schema and these settings without documents was made on a device, or why not
    pub record IsMade (schema : Schema) (settings : Settings) (left : Stage D A d an × Result ⊤ Fault) : Type 0 where
      pub outcome : Result (Index D A d an) (Refused D A)
      pub leaves : left ≡ left_by outcome
      pub fresh : IfOk outcome (λ index.
          IndexStands analyze index (steps.configuration_of schema (analyze analyzer) settings) steps.fresh_index)
      pub possible : OnOk outcome (making_fault (knows analyzer) schema settings ≡ None)
      pub exact : IfErr outcome (λ r. (r.fault ≡ faults.OutOfMemory)
          ⊎ (making_fault (knows analyzer) schema settings ≡ Some r.fault)
          ⊎ ((making_fault (knows analyzer) schema settings ≡ None) × IsCreateRefusal r.fault))
      pub empty : IsTrue (d.honest device) → OnOk outcome (d.content device ≡ [])
      pub not_empty : IsTrue (d.honest device)
          → IfErr outcome (λ r. r.fault ≡ faults.NotEmpty → d.content device ≢ [])
      pub kept : analyzer_after outcome ≡ analyzer

    -- the index of a file was opened, of whatever documents its segments are, or why not
    pub record IsRead (left : Stage D A d an × Result ⊤ Fault) : Type 0 where
      pub outcome : Result (Index D A d an) (Refused D A)
      pub leaves : left ≡ left_by outcome
      pub opened : IfOk outcome (IsOpened analyze (analyze analyzer) device)
      pub idle : IfOk outcome IsIdle
      pub known : IfOk outcome (λ index. are_analyzed (knows analyzer) (schema_of index) ≡ true)
      pub exact : IsTrue (d.honest device) → IfErr outcome (λ r.
          (r.fault ≡ faults.Device) ⊎ (r.fault ≡ faults.OutOfMemory)
          ⊎ IsOpenRefusal (knows analyzer) (d.content device) r.fault)
      pub any_device : IfErr outcome (λ r. IsOpenFault r.fault)
      pub kept : analyzer_after outcome ≡ analyzer

  -- what is refused without a look at segments, the definitions say of what has the same status and as many groups as
  -- segments are committed; or, where no index stands, whatever the device holds
  abbrev pub IsShadowOn : steps.Analysis → Stage D A d an → steps.Stage → Type 0
  IsShadowOn a (Spare device analyzer) (steps.no_index held) = a ≡ analysis_of knows analyze analyzer
  IsShadowOn a (Spare device analyzer) (steps.index_of schema settings x) = ⊥
  IsShadowOn a (Standing index) (steps.no_index held) = ⊥
  IsShadowOn a (Standing index) (steps.index_of schema settings x) =
      (a ≡ analysis_of knows analyze (analyzer_of index)) × (schema ≡ schema_of index) × (settings ≡ settings_of index)
      × IsShadow analyze index (steps.configuration_of schema a.analyze settings) x

  -- what a line asks came to an outcome, and left this
  pub data Comes (old new : Stage D A d an) : Option requests.Request → Result json.Data Fault → Type 0 where
    no_request : new ≡ old → Comes old new None (Err faults.BadRequest)
    no_memory : (asked : Option requests.Request) → new ≡ old → Comes old new asked (Err faults.OutOfMemory)
    -- no index stands that is asked, or one that is ready, so that no other is made or opened; or what an index is to be
    -- made of isn't read
    unasked :
        (r : requests.Request) (fault : Fault)
        → ((a : steps.Analysis) (s : steps.Stage) → IsShadowOn a old s
        → steps.stage_step a s r ≡ steps.refusing fault s)
        → new ≡ old → Comes old new (Some r) (Err fault)
    index_asked :
        (before after : Index D A d an) (r : requests.Request) (outcome : Result json.Data Fault)
        → old ≡ Standing before → new ≡ Standing after → KeepsMaking before after
        → ((c : calls.Configuration) (x : calls.Index) → IsShadow analyze before c x
        → Ends analyze before after c x r outcome)
        → Comes old new (Some r) outcome
    index_made :
        (value : json.Data) (more : Option json.Data) (schema : Schema) (settings : Settings) (change : Result ⊤ Fault)
        → takes_on old ≡ false → schema_in value ≡ Ok schema → steps.settings_sent schema more ≡ Ok settings
        → IsMade (device_on old) (analyzer_on old) schema settings (new, change)
        → Comes old new (Some (requests.create_index value more)) (saying_done change)
    index_read :
        (change : Result ⊤ Fault) → takes_on old ≡ false → IsRead (device_on old) (analyzer_on old) (new, change)
        → Comes old new (Some requests.open_index) (saying_done change)

  -- it is told
  pub record ComesTo {Z : Type 0} (old new : Option (Stage D A d an)) (asked : Option requests.Request)
      (result : Result (CowStr Z) Fault) : Type 0 where
    pub outcome : Result json.Data Fault
    pub tells : Tells outcome result
    pub comes : BothStand (λ before after. Comes before after asked outcome) old new
