-- What a session answers, and what it stands for after it.
use Rattle.std.proofs.Common.{Bool, Err, IfErr, IfOk, IsTrue, None, Ok, OnOk, Option, Result, Some, ap, cond, false, inl, inr, ok_or, option_and_then, option_map, refl, subst, sym, true, true≢false, ◌∙◌, ◌≡◌, ◌≢◌, ◌≤◌, ◌⊎◌, ⊎_elim, List, ℕ}
use Rattle.std.specs.Bool.{⊤}
use Rattle.std.specs.Prelude.{IsErrAnd, IsErrOf}
use Rattle.std.specs.Cow.{cow_str_bytes}
use Rattle.std.specs.declared.borrow.CowStr.{CowStr}
use Rattle.common.specs.declared.analyzer.Analyzer as analyzers
use Rattle.common.specs.declared.device.Device as devices
use Rattle.definitions.specs.QueryGrammar.{query_in}
use Rattle.definitions.specs.Calls as calls
use Rattle.definitions.specs.Analyzers.{Analyzer}
use Rattle.definitions.specs.FaultNames.{reply_text}
use Rattle.definitions.specs.Query.{Query}
use Rattle.definitions.specs.Replies.{reply_of}
use Rattle.definitions.specs.Requests as requests
use Rattle.definitions.specs.Schema.{Schema}
use Rattle.definitions.specs.SchemaGrammar.{schema_in}
use Rattle.definitions.specs.Settings.{Settings}
use Rattle.definitions.specs.Step as steps
use Rattle.definitions.specs.declared.fault.Fault.{Fault}
use Rattle.definitions.specs.declared.fault.Fault.TheVariants as faults
use Rattle.definitions.proofs.ReplyTexts.{error_text}
use Rattle.definitions.specs.Disk.{HasCause, IsImage}
use Rattle.definitions.specs.Values.{Document}
use Rattle.engine.specs.Files.{IsFileOf}
use Rattle.layouts.specs.RecordFiles.{IsFile}
use Rattle.index_state.proofs.Outcomes.{closed_is_not_ready}
use Rattle.index.proofs.Failures.{closed_stays, closed_step, memory_no_device}
use Rattle.definitions.specs.State.{State}
use Rattle.engine.specs.Indexes.{CrashLeavesEither, IndexStands, IsInFile, KeepsFile, KeepsMaking, analyzer_of, device_of, schema_of, settings_of}
use Rattle.index.specs.AskedRequests.{index_request_of}
use Rattle.index.specs.Replying.{Answers, GoesOn, IndexMeets, IsFailed, MayStay, OnlyStops, change_text, closed_index}
use Rattle.index.specs.Sessions.{HasHeld, HasStage, HoldsOn, IsIndex, IsKnown, IsLeft, LeavesStage, MakesIndex, MayDrop, MayStayAt, MeetsLimit, Replies, StandsAs, StandsFor, analysis_of, closed_session, closed_stage, failures_of, failures_on, honest_of, honest_on}
use Rattle.engine.specs.declared.index.Index.{Index}
use Rattle.index.specs.declared.requests.IndexRequest.{IndexRequest}
use Rattle.index.specs.declared.requests.IndexRequest.TheVariants.{Add, Commit, Count, Delete, Merge, Search}
use Rattle.index.specs.declared.session.Session.{Session}
use Rattle.index.specs.declared.stage.Stage.TheVariants.{Spare, Standing}
use Rattle.definitions.proofs.Lists.{err_map as err_weaker}
use Rattle.index.proofs.Causes.{memory_cause, memory_no_limit, same_cause, same_error}
use Rattle.index.proofs.IndexFiles.{step_status}
use Rattle.index.proofs.Leavings.{error_of_change, index_left, memory_stays}
use Rattle.index.proofs.Stages.{held_kept}
use Rattle.index_file.proofs.Results.{OnOk-map as on_map}
use Rattle.serde_json.specs.Read.{read}
use Rattle.serde_json.specs.View.{view}
use Rattle.serde_json.specs.Data as json

-- ---- what a request comes to

-- while an index is ready no other is made or opened
pub already_made : (s : steps.Session) (d : json.Data) (more : Option json.Data) → steps.is_ready s.stage ≡ true → steps.stage_step s.analysis s.stage (requests.create_index d more) ≡ steps.refusing faults.AlreadyOpen s.stage
already_made s d more is = ap (λ (b : Bool). cond b (steps.refusing faults.AlreadyOpen s.stage) (steps.with_schema s.analysis.knows s.stage more (schema_in d))) is

pub already_opened : (s : steps.Session) → steps.is_ready s.stage ≡ true → steps.stage_step s.analysis s.stage requests.open_index ≡ steps.refusing faults.AlreadyOpen s.stage
already_opened s is = ap (λ (b : Bool). cond b (steps.refusing faults.AlreadyOpen s.stage) (steps.opened s.analysis.knows (steps.held_by s.stage))) is

-- what is read is made
pub created_step : (s : steps.Session) (d : json.Data) (more : Option json.Data) (fields : Schema) (numbers : Settings) → steps.is_ready s.stage ≡ false → schema_in d ≡ Ok fields → steps.settings_sent fields more ≡ Ok numbers → steps.stage_step s.analysis s.stage (requests.create_index d more) ≡ steps.created s.analysis.knows fields numbers (steps.held_by s.stage)
created_step s d more fields numbers is schema settings =
    ap (λ (b : Bool). cond b (steps.refusing faults.AlreadyOpen s.stage) (steps.with_schema s.analysis.knows s.stage more (schema_in d))) is
    ∙ ap (λ (r : Result Schema Fault). steps.with_schema s.analysis.knows s.stage more r) schema
    ∙ ap (λ (r : Result Settings Fault). steps.with_settings s.analysis.knows s.stage fields r) settings

-- what isn't read is refused
pub unread_step : (s : steps.Session) (d : json.Data) (more : Option json.Data) (fault : Fault) → steps.is_ready s.stage ≡ false → (schema_in d ≡ Err fault) ⊎ ((fields : Schema) × (schema_in d ≡ Ok fields) × (steps.settings_sent fields more ≡ Err fault)) → steps.stage_step s.analysis s.stage (requests.create_index d more) ≡ steps.refusing fault s.stage
unread_step s d more fault is (inl schema) =
    ap (λ (b : Bool). cond b (steps.refusing faults.AlreadyOpen s.stage) (steps.with_schema s.analysis.knows s.stage more (schema_in d))) is
    ∙ ap (λ (r : Result Schema Fault). steps.with_schema s.analysis.knows s.stage more r) schema
unread_step s d more fault is (inr (fields, schema, settings)) =
    ap (λ (b : Bool). cond b (steps.refusing faults.AlreadyOpen s.stage) (steps.with_schema s.analysis.knows s.stage more (schema_in d))) is
    ∙ ap (λ (r : Result Schema Fault). steps.with_schema s.analysis.knows s.stage more r) schema
    ∙ ap (λ (r : Result Settings Fault). steps.with_settings s.analysis.knows s.stage fields r) settings

pub opened_step : (s : steps.Session) → steps.is_ready s.stage ≡ false → steps.stage_step s.analysis s.stage requests.open_index ≡ steps.opened s.analysis.knows (steps.held_by s.stage)
opened_step s is = ap (λ (b : Bool). cond b (steps.refusing faults.AlreadyOpen s.stage) (steps.opened s.analysis.knows (steps.held_by s.stage))) is

-- what is asked of an index goes to the one that stands
pub asked_step : (a : steps.Analysis) (stage : steps.Stage) (r : IndexRequest) → steps.stage_step a stage (index_request_of r) ≡ steps.in_index a.analyze stage (index_request_of r)
asked_step a stage (Add doc) = refl
asked_step a stage (Delete term) = refl
asked_step a stage (Merge from to) = refl
asked_step a stage Commit = refl
asked_step a stage (Search query k) = refl
asked_step a stage (Count query) = refl

-- and makes none
makes_none : (r : IndexRequest) → ¬ MakesIndex (Some (index_request_of r))
makes_none (Add doc) makes = makes
makes_none (Delete term) makes = makes
makes_none (Merge from to) makes = makes
makes_none Commit makes = makes
makes_none (Search query k) makes = makes
makes_none (Count query) makes = makes

-- ---- what an index that isn't ready is left as

refused_or_same : (o : Option Fault) (x : calls.Index) (p : json.Data × calls.Index) → p.1 ≡ x → (steps.refused_or o x p).1 ≡ x
refused_or_same None x p is = is
refused_or_same (Some fault) x p is = refl

-- a search that is read, or isn't, changes nothing
searched_same : (c : calls.Configuration) (x : calls.Index) (k : ℕ) (o : Option Query) → (steps.call_step c x (ok_or (option_map (λ q. calls.search_best q k) o) faults.BadQuery)).1 ≡ x
searched_same c x k None = refl
searched_same c x k (Some q) = refused_or_same (calls.own_fault c x.state (calls.search_best q k)) x (steps.answering c x (calls.search_best q k)) refl

counted_same : (c : calls.Configuration) (x : calls.Index) (o : Option Query) → (steps.call_step c x (ok_or (option_map calls.count_all o) faults.BadQuery)).1 ≡ x
counted_same c x None = refl
counted_same c x (Some q) = refused_or_same (calls.own_fault c x.state (calls.count_all q)) x (steps.answering c x (calls.count_all q)) refl

-- an index that isn't ready is left as it is
unmoved : (c : calls.Configuration) (state : State) (status : calls.Status) (r : IndexRequest) → (status ≡ calls.ready) ⊎ ((steps.index_step c (record { state = state; status = status }) (index_request_of r)).1 ≡ record { state = state; status = status })
unmoved c state calls.ready r = inl refl
unmoved c state calls.closed r = inr refl
unmoved c state calls.writer_closed (Add doc) = inr refl
unmoved c state calls.writer_closed (Delete term) = inr refl
unmoved c state calls.writer_closed (Merge from to) = inr refl
unmoved c state calls.writer_closed Commit = inr refl
unmoved c state calls.writer_closed (Search query k) = inr (searched_same c (record { state = state; status = calls.writer_closed }) k (query_in c.schema (view query.now)))
unmoved c state calls.writer_closed (Count query) = inr (counted_same c (record { state = state; status = calls.writer_closed }) (query_in c.schema (view query.now)))

-- what an index is known by after a request
known_after : {D : Type 0} (honest : D → Bool) (content : D → List ℕ) (cut : Analyzer) (old new : D) (c : calls.Configuration) (s : Schema) (u : Settings) (x : calls.Index) (r : IndexRequest) → (x.status ≡ calls.ready) ⊎ (new ≡ old) → IsKnown honest content cut old s u x → IsKnown honest content cut new s u ((steps.index_step c x (index_request_of r)).1)
known_after honest content cut old new c s u x r (inl ready) known = inl (step_status c x (index_request_of r) ∙ ready)
known_after honest content cut old new c s u x r (inr same) (inl ready) = inl (step_status c x (index_request_of r) ∙ ready)
known_after honest content cut old new c s u x r (inr same) (inr held) = elim (unmoved c x.state x.status r) [
  | inl ready ↦ inl (step_status c x (index_request_of r) ∙ ready)
  | inr stays ↦ inr (subst (λ (y : calls.Index). HasHeld honest content cut new (steps.file_of s u y.state.groups)) (sym stays) (held_kept honest content cut old new (steps.file_of s u x.state.groups) held (ap honest same) (ap content same)))
]

-- an index that takes every call is ready
pub ready_taken : (status : calls.Status) → steps.takes_calls status ≡ true → status ≡ calls.ready
ready_taken calls.ready takes = refl
ready_taken calls.writer_closed takes = absurd (true≢false (sym takes))
ready_taken calls.closed takes = absurd (true≢false (sym takes))

-- ---- replies

-- and of three
on_three : {T E : Type 0} (r : Result T E) (P Q R S : Type 0) → OnOk r P → OnOk r Q → OnOk r R → (P → Q → R → S) → OnOk r S
on_three (Ok t) P Q R S p q s f = f p q s
on_three (Err e) P Q R S p q s f = tt

module _ {D A : Type 0} {d : devices.Ghosts D} {a : analyzers.Ghosts A} where
  -- what a device holds once it failed in a call of a ready index
  failed_holds : (counts_now : (device : D) (t : ℕ) (image : List ℕ) → IsTrue (d.honest device) → t ≤ d.moment device → IsImage (d.content device) (d.unsynced device) image → d.left_since device t image)
      → (remains : (device : D) → IsTrue (d.honest device) → IsImage (d.content device) (d.unsynced device) (d.content device))
      → (cut : steps.Analysis) (old new : Index D A d a) (fields : Schema) (numbers : Settings) (x : calls.Index) (other : List (List Document)) → IsIndex a.knows_name a.analyze cut old fields numbers x → IsTrue (d.honest (device_of new))
      → CrashLeavesEither a.analyze old new x.state.groups other
      → HasHeld d.honest d.content cut.analyze (device_of new) (steps.file_of fields numbers x.state.groups) ⊎ HasHeld d.honest d.content cut.analyze (device_of new) (steps.file_of fields numbers other)
  failed_holds counts_now remains cut old new fields numbers x other index honest either =
      let device = device_of new in
      let content = d.content device in
      let own : a.analyze (analyzer_of old) ≡ cut.analyze = sym (ap (λ (b : steps.Analysis). b.analyze) index.analysis) in
      let known : (groups : List (List Document)) → IsFileOf (schema_of old) (settings_of old) (a.analyze (analyzer_of old)) groups content → HasHeld d.honest d.content cut.analyze device (steps.file_of fields numbers groups) =
      λ groups file. (
        honest,
        subst (λ (k : Analyzer). IsFileOf fields numbers k groups content) own
            (subst (λ (u : Settings). IsFileOf fields u (a.analyze (analyzer_of old)) groups content) index.numbers
            (subst (λ (t : Schema). IsFileOf t (settings_of old) (a.analyze (analyzer_of old)) groups content) index.fields file)),
      ) in
      ⊎_elim (λ (first : IsFile either.first content). inl (known x.state.groups (either.first, first, either.says_one)))
      (λ (second : IsFile either.second content). ⊎_elim (λ says. inl (known x.state.groups (either.second, second, says))) (λ says. inr (known other (either.second, second, says))) either.says_other)
      (either.images.each_image content (counts_now device (d.moment (device_of old)) content honest either.images.later (remains device honest)))

module _ {D A Z : Type 0} {d : devices.Ghosts D} {a : analyzers.Ghosts A} where
  -- the reply to a change
  pub replied : (s : steps.Session) (old new : Session D A d a) (change : Result ⊤ Fault) (result : Result (CowStr Z) Fault) (p : json.Data × steps.Stage) (r : requests.Request) → steps.is_ready s.stage ≡ false → steps.stage_step s.analysis s.stage r ≡ p → LeavesStage a.knows_name a.analyze s.analysis (steps.held_by s.stage) new.stage change p → IfOk result (λ text. cow_str_bytes text ≡ change_text change) → OnOk result (GoesOn change)
      → IfErr result (λ e. change ≡ Err e) → honest_of new ≡ honest_of old → HasCause (failures_of old) (failures_of new) change → ¬ IsErrOf change faults.Limit → MayDrop (Some r) → Replies old new s (Some r) result
  replied s old new change result p r not_ready is leaves told on same honest failures no_limit drops = record {
    text = text result told on;
    state = state result on;
    honest = honest;
    left = λ _. error_of_change change result (λ fault. fault ≢ faults.Device → (t : steps.Session) × IsLeft s (Some r) fault t × StandsFor new t) same
        (err_weaker change (λ fault. fault ≢ faults.Device → HasStage a.knows_name a.analyze s.analysis new.stage (steps.no_index (steps.held_by s.stage))) (λ fault. fault ≢ faults.Device → (t : steps.Session) × IsLeft s (Some r) fault t × StandsFor new t)
        (λ fault spare other. (record s { stage = steps.no_index (steps.held_by s.stage) }, (refl, inr (inr (drops, not_ready, refl))), spare other)) leaves.spare);
    failures = same_cause (failures_of old) (failures_of new) change result same failures;
    limit = λ limit. absurd (no_limit (same_error change result faults.Limit same limit));
    failed = λ _ ready device. absurd (true≢false (sym ready ∙ not_ready));
    emptied = λ makes device. leaves.emptied (same_error change result faults.Device same device);
  }
    where
      text : (result : Result (CowStr Z) Fault) → IfOk result (λ text. cow_str_bytes text ≡ change_text change) → OnOk result (GoesOn change) → IfOk result (λ text. cow_str_bytes text ≡ reply_of ((steps.step s (Some r)).0))
      text (Ok t) told on = told ∙ (leaves.told on).0 ∙ ap (λ q. reply_of q.0) (sym is)
      text (Err e) told on = tt

      state : (result : Result (CowStr Z) Fault) → OnOk result (GoesOn change) → OnOk result (StandsFor new ((steps.step s (Some r)).1))
      state (Ok t) on = subst (λ (q : json.Data × steps.Stage). HasStage a.knows_name a.analyze s.analysis new.stage q.1) (sym is) (leaves.told on).1
      state (Err e) on = tt

  -- the reply to a request that is refused
  pub refused_reply : (s : steps.Session) (session : Session D A d a) (fault : Fault) (result : Result (CowStr Z) Fault) (r : requests.Request) → StandsFor session s → (OnOk result (steps.stage_step s.analysis s.stage r ≡ steps.refusing fault s.stage)) → IfOk result (λ text. cow_str_bytes text ≡ reply_text fault) → IfErr result (λ e. e ≡ faults.OutOfMemory) → Replies session session s (Some r) result
  refused_reply s session fault (Ok text) r stands is told memory = record {
    text = told ∙ error_text fault ∙ ap (λ q. reply_of q.0) (sym is);
    state = subst (λ (q : json.Data × steps.Stage). HasStage a.knows_name a.analyze s.analysis session.stage q.1) (sym is) stands;
    honest = refl;
    failures = memory_cause (failures_of session) (Ok text) tt;
    limit = λ limit. absurd (memory_no_limit (Ok text) tt limit);
    failed = λ _ ready device. absurd (memory_no_device (Ok text) tt device);
    emptied = λ makes device. absurd (memory_no_device (Ok text) tt device);
    left = λ _. tt;
  }
  refused_reply s session fault (Err e) r stands is told memory = record {
    text = tt;
    state = tt;
    honest = refl;
    failures = memory_cause {T = CowStr Z} (failures_of session) (Err e) memory;
    limit = λ limit. absurd (memory_no_limit {T = CowStr Z} (Err e) memory limit);
    failed = λ _ ready device. absurd (memory_no_device {T = CowStr Z} (Err e) memory device);
    emptied = λ makes device. absurd (memory_no_device {T = CowStr Z} (Err e) memory device);
    left = λ _ other. (s, (refl, inl (memory_stays s.stage (Some r) e memory, refl)), stands);
  }

  -- likewise of a session with the same stage
  pub same_stage : (s : steps.Session) (old new : Session D A d a) (o : Option requests.Request) (result : Result (CowStr Z) Fault) → new.stage ≡ old.stage → Replies old old s o result → Replies old new s o result
  same_stage s old new o result same replies = record {
    text = replies.text;
    state = subst (λ t. OnOk result (HasStage a.knows_name a.analyze ((steps.step s o).1.analysis) t ((steps.step s o).1.stage))) (sym same) replies.state;
    honest = subst (λ t. honest_on t ≡ honest_of old) (sym same) replies.honest;
    failures = subst (λ t. HasCause (failures_of old) (failures_on t) result) (sym same) replies.failures;
    limit = replies.limit;
    failed = subst (λ stage. IsTrue (honest_of old) → steps.is_ready s.stage ≡ true → IsErrOf result faults.Device
        → HasStage a.knows_name a.analyze s.analysis stage (closed_session s).stage ⊎ HasStage a.knows_name a.analyze (closed_session ((steps.step s o).1)).analysis stage (closed_session ((steps.step s o).1)).stage) (sym same) replies.failed;
    left = subst (λ stage. IsTrue (honest_of old) → IfErr result (λ fault. fault ≢ faults.Device → (t : steps.Session) × IsLeft s o fault t × HasStage a.knows_name a.analyze t.analysis stage t.stage)) (sym same) replies.left;
    emptied = subst (λ stage. MakesIndex o → IsErrOf result faults.Device → (now : steps.Held) → HoldsOn s.analysis.analyze stage now → HasStage a.knows_name a.analyze s.analysis stage (steps.no_index now)) (sym same) replies.emptied;
  }

  -- the reply where nothing is asked for
  pub unasked_reply : (s : steps.Session) (session : Session D A d a) (o : Option requests.Request) (text : CowStr Z) → None ≡ o → StandsFor session s → cow_str_bytes text ≡ reply_text faults.BadRequest → Replies session session s o (Ok text)
  unasked_reply s session o text is stands told =
      subst (λ (q : Option requests.Request). Replies session session s q (Ok text)) is
      (record {
        text = told ∙ error_text faults.BadRequest;
        state = stands;
        honest = refl;
        failures = memory_cause (failures_of session) (Ok text) tt;
        limit = λ limit. absurd (memory_no_limit (Ok text) tt limit);
        failed = λ _ ready device. absurd (memory_no_device (Ok text) tt device);
        emptied = λ makes device. absurd (memory_no_device (Ok text) tt device);
        left = λ _. tt;
      })

  -- and where no memory is found
  pub memory_reply : (s : steps.Session) (session : Session D A d a) (o : Option requests.Request) (result : Result (CowStr Z) Fault) → StandsFor session s → IsErrAnd result (λ e. e ≡ faults.OutOfMemory) → Replies session session s o result
  memory_reply s session o (Ok text) stands memory = absurd memory
  memory_reply s session o (Err e) stands memory = record {
    text = tt;
    state = tt;
    honest = refl;
    failures = memory_cause {T = CowStr Z} (failures_of session) (Err e) memory;
    limit = λ limit. absurd (memory_no_limit {T = CowStr Z} (Err e) memory limit);
    failed = λ _ ready device. absurd (memory_no_device {T = CowStr Z} (Err e) memory device);
    emptied = λ makes device. absurd (memory_no_device {T = CowStr Z} (Err e) memory device);
    left = λ _ other. (s, (refl, inl (memory_stays s.stage o e memory, refl)), stands);
  }

  -- ---- what is asked of the index that stands

  -- what is known of an index, what it is asked and how it answers
  pub record Asked (old new : Index D A d a) (r : IndexRequest) (result : Result (CowStr Z) Fault) : Type 0 where
    pub answered : (c : calls.Configuration) (x : calls.Index) → IndexStands a.analyze old c x → Answers a.analyze new c x (index_request_of r) result
    pub made : KeepsMaking old new
    pub kept : (c : calls.Configuration) (x : calls.Index) → IndexStands a.analyze old c x → OnOk result ((x.status ≡ calls.ready) ⊎ KeepsFile old new)
    pub rests : (c : calls.Configuration) (x : calls.Index) → IndexStands a.analyze old c x → IsInFile old x → OnOk result (IsInFile new ((steps.index_step c x (index_request_of r)).1))
    pub honest : d.honest (device_of new) ≡ d.honest (device_of old)
    pub left : (c : calls.Configuration) (x : calls.Index) → IndexStands a.analyze old c x → IfErr result (λ fault. fault ≢ faults.Device → OnlyStops a.analyze old new c x (index_request_of r) fault)
    pub failures : (c : calls.Configuration) (x : calls.Index) → IndexStands a.analyze old c x → HasCause (d.failed (device_of old)) (d.failed (device_of new)) result
    pub limit : (c : calls.Configuration) (x : calls.Index) → IndexStands a.analyze old c x → IsErrOf result faults.Limit → IndexMeets a.analyze old c x (Some (index_request_of r))
    pub closed : (c : calls.Configuration) (x : calls.Index) → IndexStands a.analyze old c x → x.status ≡ calls.closed → ¬ IsErrOf result faults.Limit
    pub failed : (c : calls.Configuration) (x : calls.Index) → IndexStands a.analyze old c x → IsErrOf result faults.Device → IsFailed a.analyze old new c x (index_request_of r)
    pub counts_now : (device : D) (t : ℕ) (image : List ℕ) → IsTrue (d.honest device) → t ≤ d.moment device → IsImage (d.content device) (d.unsynced device) image → d.left_since device t image
    pub remains : (device : D) → IsTrue (d.honest device) → IsImage (d.content device) (d.unsynced device) (d.content device)

  module _ (s : steps.Session) (before after : Session D A d a) (old new : Index D A d a) (r : IndexRequest) (result : Result (CowStr Z) Fault) (was : before.stage ≡ Some (Standing old)) (is : after.stage ≡ Some (Standing new)) (asked : Asked old new r result)
      (fields : Schema) (numbers : Settings) (x : calls.Index) (same : s.stage ≡ steps.index_of fields numbers x) (index : IsIndex a.knows_name a.analyze s.analysis old fields numbers x) where
    abbrev made_of : calls.Configuration
    made_of = steps.configuration_of fields s.analysis.analyze numbers

    abbrev step_of : json.Data × calls.Index
    step_of = steps.index_step made_of x (index_request_of r)

    step_is : steps.stage_step s.analysis s.stage (index_request_of r) ≡ steps.in_index s.analysis.analyze (steps.index_of fields numbers x) (index_request_of r)
    step_is = ap (λ (t : steps.Stage). steps.stage_step s.analysis t (index_request_of r)) same ∙ asked_step s.analysis (steps.index_of fields numbers x) r

    -- the new index with these words
    now_is : (y : calls.Index) → StandsAs a.knows_name a.analyze new made_of y → IsInFile new y → IsKnown d.honest d.content s.analysis.analyze (device_of new) fields numbers y → IsIndex a.knows_name a.analyze s.analysis new fields numbers y
    now_is y stands rests known = record {
      analysis = index.analysis ∙ ap (analysis_of a.knows_name a.analyze) (sym asked.made.analyzer);
      fields = asked.made.schema ∙ index.fields;
      numbers = asked.made.settings ∙ index.numbers;
      stands = stands;
      rests = rests;
      known = known;
    }

    -- a session that stands for what it is now
    stands_now : (y : calls.Index) → IsIndex a.knows_name a.analyze s.analysis new fields numbers y → HasStage a.knows_name a.analyze s.analysis after.stage (steps.index_of fields numbers y)
    stands_now y now = subst (λ o. HasStage a.knows_name a.analyze s.analysis o (steps.index_of fields numbers y)) (sym is) now

    -- what was told, and the state after it
    told_text : IfOk result (λ text. cow_str_bytes text ≡ reply_of step_of.0) → IfOk result (λ text. cow_str_bytes text ≡ reply_of ((steps.step s (Some (index_request_of r))).0))
    told_text told = subst (λ (q : json.Data × steps.Stage). IfOk result (λ text. cow_str_bytes text ≡ reply_of q.0)) (sym step_is) told

    told_state : OnOk result (IsIndex a.knows_name a.analyze s.analysis new fields numbers step_of.1) → OnOk result (StandsFor after ((steps.step s (Some (index_request_of r))).1))
    told_state told = subst (λ (q : json.Data × steps.Stage). OnOk result (HasStage a.knows_name a.analyze s.analysis after.stage q.1)) (sym step_is)
        (on_map result (IsIndex a.knows_name a.analyze s.analysis new fields numbers step_of.1) (HasStage a.knows_name a.analyze s.analysis after.stage (steps.index_of fields numbers step_of.1)) (stands_now step_of.1) told)

    is_honest : IsTrue (honest_of before) → IsTrue (d.honest (device_of old))
    is_honest honest = subst (λ o. IsTrue (honest_on o)) was honest

    cause_of : HasCause (d.failed (device_of old)) (d.failed (device_of new)) result → HasCause (failures_of before) (failures_of after) result
    cause_of cause = subst (λ o. HasCause (failures_on o) (failures_on after.stage) result) (sym was) (subst (λ o. HasCause (d.failed (device_of old)) (failures_on o) result) (sym is) cause)

    -- after a failed device
    closed_now : IndexStands a.analyze old made_of x → IsTrue (honest_of before) → steps.is_ready s.stage ≡ true → IsErrOf result faults.Device
        → StandsFor after (closed_session s) ⊎ StandsFor after (closed_session ((steps.step s (Some (index_request_of r))).1))
    closed_now stands honest ready device =
        let met = asked.failed made_of x stands device in
        let there = is_honest honest in
        let taken : x.status ≡ calls.ready = ready_taken x.status (sym (ap steps.is_ready same) ∙ ready) in
        let later = asked.honest ∙ there in
        let nothing : (y : calls.Index) → y.status ≡ calls.closed → IsInFile new y = λ y closed h is_ready. absurd (closed_is_not_ready (sym closed ∙ is_ready)) in
        ⊎_elim
        (λ held. inl (subst (λ (t : steps.Stage). HasStage a.knows_name a.analyze s.analysis after.stage (closed_stage t)) (sym same)
        (stands_now (closed_index x) (now_is (closed_index x) (inl met.stands) (nothing (closed_index x) refl) (inr held)))))
        (λ held. inr (subst (λ (q : json.Data × steps.Stage). HasStage a.knows_name a.analyze s.analysis after.stage (closed_stage q.1)) (sym step_is)
        (stands_now (closed_index step_of.1) (now_is (closed_index step_of.1) (inr (refl, closed_index x, refl, met.stands)) (nothing (closed_index step_of.1) refl) (inr held)))))
        (failed_holds asked.counts_now asked.remains s.analysis old new fields numbers x step_of.1.state.groups index later (met.files there (index.rests there taken)))

    -- an index that isn't closed
    open_reply : IndexStands a.analyze old made_of x → Replies before after s (Some (index_request_of r)) result
    open_reply stands =
        let told = asked.answered made_of x stands in
        record {
          text = told_text told.text;
          state = told_state (on_three result (IndexStands a.analyze new made_of step_of.1) ((x.status ≡ calls.ready) ⊎ KeepsFile old new) (IsInFile new step_of.1) (IsIndex a.knows_name a.analyze s.analysis new fields numbers step_of.1)
              told.state (asked.kept made_of x stands) (asked.rests made_of x stands index.rests)
              (λ standing still in_file. now_is step_of.1 (inl standing) in_file
              (known_after d.honest d.content s.analysis.analyze (device_of old) (device_of new) made_of fields numbers x r (elim still [ inl ready ↦ inl ready | inr file ↦ inr file.0 ]) index.known)));
          honest = ap honest_on is ∙ asked.honest ∙ sym (ap honest_on was);
          left = λ honest. err_weaker result (λ fault. fault ≢ faults.Device → OnlyStops a.analyze old new made_of x (index_request_of r) fault) (λ fault. fault ≢ faults.Device → (t : steps.Session) × IsLeft s (Some (index_request_of r)) fault t × StandsFor after t)
              (λ fault stops other. index_left s after old new fields numbers x (index_request_of r) fault same is index asked.made (is_honest honest) (stops other)) (asked.left made_of x stands);
          failures = cause_of (asked.failures made_of x stands);
          limit = λ met. subst (λ o. MeetsLimit a.analyze s.analysis o s.stage (Some (index_request_of r))) (sym was) (subst (λ t. MeetsLimit a.analyze s.analysis (Some (Standing old)) t (Some (index_request_of r))) (sym same) (asked.limit made_of x stands met));
          failed = closed_now stands;
          emptied = λ makes. absurd (makes_none r makes);
        }

    -- what a closed index is after a request that left its file alone
    still_closed : (y : calls.Index) → x.status ≡ calls.closed → y.status ≡ calls.closed → IndexStands a.analyze new made_of y → KeepsFile old new → IsIndex a.knows_name a.analyze s.analysis new fields numbers x
    still_closed y closed also standing file =
        now_is x (inr (closed, y, also, standing)) (λ h ready. absurd (closed_is_not_ready (sym closed ∙ ready)))
        (⊎_elim (λ ready. absurd (closed_is_not_ready (sym closed ∙ ready)))
        (λ held. inr (held_kept d.honest d.content s.analysis.analyze (device_of old) (device_of new) (steps.file_of fields numbers x.state.groups) held (ap d.honest file.0) (ap d.content file.0))) index.known)

    -- a closed one
    closed_reply : x.status ≡ calls.closed → (y : calls.Index) → y.status ≡ calls.closed → IndexStands a.analyze old made_of y → Replies before after s (Some (index_request_of r)) result
    closed_reply closed y also stands =
        let told = asked.answered made_of y stands in
        let mine = closed_step made_of x (index_request_of r) closed in
        let other = closed_step made_of y (index_request_of r) also in
        let stays : step_of.1 ≡ x = ap (λ (p : json.Data × calls.Index). p.1) mine in
        let text : (steps.index_step made_of y (index_request_of r)).0 ≡ step_of.0 = ap (λ (p : json.Data × calls.Index). p.0) other ∙ sym (ap (λ (p : json.Data × calls.Index). p.0) mine) in
        record {
          text = told_text (subst (λ (q : json.Data). IfOk result (λ text. cow_str_bytes text ≡ reply_of q)) text told.text);
          state = told_state (on_three result (IndexStands a.analyze new made_of (steps.index_step made_of y (index_request_of r)).1) ((y.status ≡ calls.ready) ⊎ KeepsFile old new) ((y.status ≡ calls.ready) ⊎ KeepsFile old new) (IsIndex a.knows_name a.analyze s.analysis new fields numbers step_of.1)
              told.state (asked.kept made_of y stands) (asked.kept made_of y stands)
              (λ standing still again. subst (IsIndex a.knows_name a.analyze s.analysis new fields numbers) (sym stays)
              (⊎_elim (λ ready. absurd (closed_is_not_ready (sym also ∙ ready)))
              (λ file. still_closed y closed also (subst (λ (z : calls.Index). IndexStands a.analyze new made_of z) (ap (λ (p : json.Data × calls.Index). p.1) other) standing) file) still)));
          honest = ap honest_on is ∙ asked.honest ∙ sym (ap honest_on was);
          left = λ honest. err_weaker result (λ fault. fault ≢ faults.Device → OnlyStops a.analyze old new made_of y (index_request_of r) fault) (λ fault. fault ≢ faults.Device → (t : steps.Session) × IsLeft s (Some (index_request_of r)) fault t × StandsFor after t)
              (λ fault stops other. closed_left fault (stops other)) (asked.left made_of y stands);
          failures = cause_of (asked.failures made_of y stands);
          limit = λ met. absurd (asked.closed made_of y stands also met);
          failed = λ honest ready device. absurd (true≢false (sym ready ∙ ap steps.is_ready same ∙ ap steps.takes_calls closed));
          emptied = λ makes. absurd (makes_none r makes);
        }
      where
        closed_left : (fault : Fault) → OnlyStops a.analyze old new made_of y (index_request_of r) fault → (t : steps.Session) × IsLeft s (Some (index_request_of r)) fault t × StandsFor after t
        closed_left fault left = elim left.stands [
          | inl (may, standing) ↦ (
            s,
            (refl, inl (subst (λ (t : steps.Stage). MayStayAt t (Some (index_request_of r)) fault) (sym same) (subst (λ (u : Settings). MayStay fields u (Some (index_request_of r)) fault) index.numbers may), refl)),
            subst (λ (t : steps.Stage). HasStage a.knows_name a.analyze s.analysis after.stage t) (sym same) (stands_now x (still_closed y closed also standing left.file)),
          )
          | inr (closes, standing) ↦ absurd (closed_stays made_of (settings_of old) y r also closes)
        ]

  pub index_reply : (s : steps.Session) (before after : Session D A d a) (old new : Index D A d a) (r : IndexRequest) (result : Result (CowStr Z) Fault) → before.stage ≡ Some (Standing old) → after.stage ≡ Some (Standing new) → StandsFor before s → Asked old new r result
      → Replies before after s (Some (index_request_of r)) result
  index_reply s before after old new r result was is stands asked =
      at s.stage refl (subst (λ o. HasStage a.knows_name a.analyze s.analysis o s.stage) was stands)
    where
      at : (stage : steps.Stage) → s.stage ≡ stage → HasStage a.knows_name a.analyze s.analysis (Some (Standing old)) s.stage → Replies before after s (Some (index_request_of r)) result
      at (steps.no_index held) same h = absurd (subst (HasStage a.knows_name a.analyze s.analysis (Some (Standing old))) same h)
      at (steps.index_of fields numbers x) same h =
          let index : IsIndex a.knows_name a.analyze s.analysis old fields numbers x = subst (HasStage a.knows_name a.analyze s.analysis (Some (Standing old))) same h in
          ⊎_elim (λ standing. open_reply s before after old new r result was is asked fields numbers x same index standing)
          (λ closed. closed_reply s before after old new r result was is asked fields numbers x same index closed.0 closed.1 closed.2 closed.3)
          index.stands

-- none stands to be asked
pub none_asked : {D A : Type 0} (d : devices.Ghosts D) (an : analyzers.Ghosts A) (knows : A → List ℕ → Bool) (analyze : A → Analyzer) (a : steps.Analysis) (stage : steps.Stage) (device : D) (analyzer : A) (r : IndexRequest) → HasStage {d = d} {an = an} knows analyze a (Some (Spare device analyzer)) stage → steps.stage_step a stage (index_request_of r) ≡ steps.refusing faults.NotOpen stage
none_asked d an knows analyze a (steps.no_index held) device analyzer r h = asked_step a (steps.no_index held) r
none_asked d an knows analyze a (steps.index_of fields numbers x) device analyzer r h = absurd h

-- ---- a line

-- a line of a text asks for what its value does
pub line_asks : (line : List ℕ) (found : Option json.Data) → found ≡ read line → steps.line_request line ≡ option_and_then requests.request_in found
line_asks line found is = ap (λ o. option_and_then requests.request_in o) (sym is)
