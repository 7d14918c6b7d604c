-- What memory that ran out or a limit leaves of an index, and of a session.
use Rattle.std.proofs.Common.{Err, IfErr, IsTrue, None, Ok, Option, Result, Some, ap, arith, inl, inr, length, refl, subst, sym, true, true≢false, ◌||◌, ◌+◌, ◌^◌, ◌≡◌, ◌≢◌, ◌⊎◌, ◌∙◌, ℕ}
use Rattle.std.proofs.lemmas.Bool.Decides.{leb_tells}
use Rattle.std.specs.Bool.{⊤}
use Rattle.std.specs.Prelude.{OnErr}
use Rattle.common.specs.declared.analyzer.Analyzer as analyzers
use Rattle.common.specs.declared.device.Device as devices
use Rattle.definitions.specs.Analyzers.{Analyzer}
use Rattle.definitions.specs.Calls as calls
use Rattle.definitions.specs.Reading.{read_data}
use Rattle.definitions.specs.Replying.{stops}
use Rattle.definitions.specs.Requests as requests
use Rattle.definitions.specs.Schema.{Schema}
use Rattle.definitions.specs.Settings.{Settings}
use Rattle.definitions.specs.State.{State}
use Rattle.definitions.specs.Step as steps
use Rattle.definitions.specs.Values.{Document}
use Rattle.definitions.specs.declared.fault.Fault.{Fault}
use Rattle.definitions.specs.declared.fault.Fault.TheVariants as faults
use Rattle.engine.specs.HandedOn.{IsSlotTooLong}
use Rattle.engine.specs.Indexes as engine
use Rattle.engine.specs.Indexes.{IndexStands, IsInFile, KeepsFile, KeepsMaking, device_of, schema_of, settings_of}
use Rattle.engine.specs.declared.index.Index.{Index}
use Rattle.index.specs.Replying.{MayClose, MayStay, OnlyStops, closed_writer}
use Rattle.index.specs.Sessions.{ClosesWriter, HasHeld, HasStage, IsIndex, IsLeft, MayStayAt, StandsFor, analysis_of}
use Rattle.index.specs.declared.session.Session.{Session}
use Rattle.index.specs.declared.stage.Stage.TheVariants.{Standing}
use Rattle.index.proofs.Answering.{going_on, ready_then}
use Rattle.index.proofs.Causes.{call_goes_on, limit_no_memory}
use Rattle.index.proofs.IndexFiles.{in_file_still}
use Rattle.index.proofs.Stages.{held_kept, index_held}
use Rattle.segment_definitions.specs.Slots.{slot}
use Rattle.serde_json.specs.Data as json

-- what holds of a change's error holds of an error that is its
pub error_of_change : {T U : Type 0} (change : Result T Fault) (r : Result U Fault) (P : Fault → Type 0) → IfErr r (λ e. change ≡ Err e) → IfErr change P → IfErr r P
error_of_change change (Ok u) P same h = tt
error_of_change change (Err e) P same h = subst (λ ch. IfErr ch P) same h

-- what holds after any fault holds of an error
pub any_error : {T : Type 0} (r : Result T Fault) (P : Fault → Type 0) → ((fault : Fault) → P fault) → IfErr r (λ fault. fault ≢ faults.Device → P fault)
any_error (Ok t) P p = tt
any_error (Err e) P p = λ other. p e

-- what holds after an error holds under any
pub after_error : {T : Type 0} (r : Result T Fault) (P : Type 0) (Q : Fault → Type 0) → ((fault : Fault) → P → Q fault) → OnErr r P → IfErr r (λ fault. fault ≢ faults.Device → Q fault)
after_error (Ok t) P Q f h = tt
after_error (Err e) P Q f h = λ other. f e h

-- of two facts of an error
error_both : {T : Type 0} (r : Result T Fault) (P : Type 0) (Q R : Fault → Type 0) → ((fault : Fault) → P → Q fault → R fault) → IfErr r (λ fault. fault ≢ faults.Device → P) → IfErr r (λ fault. fault ≢ faults.Device → Q fault) → IfErr r (λ fault. fault ≢ faults.Device → R fault)
error_both (Ok t) P Q R f p q = tt
error_both (Err e) P Q R f p q = λ other. f e (p other) (q other)

-- ---- what may stay

-- after another fault than a limit all may stay
pub other_stays : (schema : Schema) (settings : Settings) (asked : Option requests.Request) (fault : Fault) → fault ≢ faults.Limit → MayStay schema settings asked fault
other_stays schema settings None fault other = tt
other_stays schema settings (Some (requests.create_index value more)) fault other = tt
other_stays schema settings (Some requests.open_index) fault other = tt
other_stays schema settings (Some (requests.add_doc value)) fault other = λ limit. absurd (other limit)
other_stays schema settings (Some (requests.delete_docs value)) fault other = tt
other_stays schema settings (Some (requests.merge_groups from to)) fault other = tt
other_stays schema settings (Some requests.commit_all) fault other = other
other_stays schema settings (Some (requests.search_docs value k)) fault other = tt
other_stays schema settings (Some (requests.count_docs value)) fault other = tt

-- running out of memory is no limit, so that all may stay
pub memory_stays : (stage : steps.Stage) (asked : Option requests.Request) (fault : Fault) → fault ≡ faults.OutOfMemory → MayStayAt stage asked fault
memory_stays (steps.no_index held) asked fault memory = tt
memory_stays (steps.index_of schema settings x) asked fault memory = other_stays schema settings asked fault (λ limit. limit_no_memory (sym limit ∙ memory))

memory_no_limit : faults.OutOfMemory ≢ faults.Limit
memory_no_limit is = limit_no_memory (sym is)

damaged_no_limit : (gate : Option ℕ) → faults.Damaged gate ≢ faults.Limit
damaged_no_limit gate is = true≢false (sym (ap stops is))

-- a slot is too long, or it isn't
pub slot_is : (schema : Schema) (settings : Settings) (doc : Document) → IsSlotTooLong schema settings doc ⊎ ¬ IsSlotTooLong schema settings doc
slot_is schema settings doc = elim (leb_tells (2 ^ 32) (settings.block_size + length (slot schema doc) + 8)) [
  | inl long ↦ inl long.1
  | inr short ↦ inr (λ long. let below = short.1 in omega (arith, long, below))
]

-- ---- an index

not_ready : calls.writer_closed ≡ calls.ready → ⊥
not_ready e = cc

module _ {D A : Type 0} {d : devices.Ghosts D} {an : analyzers.Ghosts A} (analyze : A → Analyzer) (new : Index D A d an) (c : calls.Configuration) (x : calls.Index) where
  -- a limit that it met leaves what may stay
  abbrev LimitStays : Settings → requests.Request → calls.Call → Result ⊤ Fault → Type 0
  LimitStays settings r call change =
      calls.call_fault c x call ≡ None → (calls.is_add call || calls.is_merge call) ≡ true → IndexStands analyze new c x
      → IfErr change (λ fault. fault ≡ faults.Limit → MayStay c.schema settings (Some r) fault)

  -- as it was, or with its writer closed
  abbrev StaysOrCloses : Settings → Type 0 → requests.Request → Fault → Type 0
  StaysOrCloses settings Closed r fault = (MayStay c.schema settings (Some r) fault × IndexStands analyze new c x) ⊎ (Closed × IndexStands analyze new c (closed_writer x))

  -- what a call leaves that met an error other than `Device`
  stopped : (settings : Settings) (Closed : Type 0) (r : requests.Request) (call : calls.Call) (fault : Fault) (y : calls.Index) → LimitStays settings r call (Err fault)
      → (calls.call_fault c x call ≡ None → (calls.is_add call || calls.is_commit call) ≡ true → IndexStands analyze new c (closed_writer x) → Closed)
      → calls.Leaves c x call (Err fault) y → IndexStands analyze new c y → fault ≢ faults.Device → StaysOrCloses settings Closed r fault
  stopped settings Closed r call fault y limited closes (calls.refused f told) stands other = inl (other_stays c.schema settings (Some r) fault (going_on fault faults.Limit (call_goes_on c x call fault told) refl), stands)
  stopped settings Closed r call fault y limited closes (calls.memory_refused ready adds) stands other = inl (other_stays c.schema settings (Some r) faults.OutOfMemory memory_no_limit, stands)
  stopped settings Closed r call fault y limited closes (calls.limit_refused accepted adds) stands other = inl (limited accepted adds stands refl, stands)
  stopped settings Closed r call fault y limited closes (calls.half_written f want accepted adds) stands other = inr (closes accepted adds stands, stands)
  stopped settings Closed r call fault y limited closes (calls.device_failed accepted writes) stands other = absurd (other refl)
  stopped settings Closed r call fault y limited closes (calls.slot_damaged accepted reads) stands other = inl (other_stays c.schema settings (Some r) (faults.Damaged None) (damaged_no_limit None), stands)

  stops_only : (settings : Settings) (Closed : Type 0) (r : requests.Request) (call : calls.Call) (change : Result ⊤ Fault) → LimitStays settings r call change
      → (calls.call_fault c x call ≡ None → (calls.is_add call || calls.is_commit call) ≡ true → IndexStands analyze new c (closed_writer x) → OnErr change Closed)
      → (y : calls.Index) × calls.Leaves c x call change y × IndexStands analyze new c y → IfErr change (λ fault. fault ≢ faults.Device → StaysOrCloses settings Closed r fault)
  stops_only settings Closed r call (Ok u) limited closes left = tt
  stops_only settings Closed r call (Err fault) limited closes (y, left, stands) = stopped settings Closed r call fault y limited closes left stands

  -- likewise of the reply to the call, where the file was kept
  pub reply_stops : {Z : Type 0} (old : Index D A d an) (r : requests.Request) (call : calls.Call) (change : Result ⊤ Fault) (result : Result Z Fault) → LimitStays (settings_of old) r call change
      → (calls.call_fault c x call ≡ None → (calls.is_add call || calls.is_commit call) ≡ true → IndexStands analyze new c (closed_writer x) → OnErr change (MayClose c (settings_of old) x (Some r)))
      → IfErr result (λ e. change ≡ Err e) → (y : calls.Index) × calls.Leaves c x call change y × IndexStands analyze new c y
      → IfErr change (λ fault. fault ≢ faults.Device → KeepsFile old new) → IfErr result (λ fault. fault ≢ faults.Device → OnlyStops analyze old new c x r fault)
  reply_stops old r call change result limited closes same left kept =
      error_of_change change result (λ fault. fault ≢ faults.Device → OnlyStops analyze old new c x r fault) same
      (error_both change (KeepsFile old new) (StaysOrCloses (settings_of old) (MayClose c (settings_of old) x (Some r)) r) (OnlyStops analyze old new c x r) (λ fault file stands. record { file = file; stands = stands }) kept
      (stops_only (settings_of old) (MayClose c (settings_of old) x (Some r)) r call change limited closes left))

  -- after an add that met a limit it stands as before only if the document's slot is too long
  pub add_stays : (old : Index D A d an) (value : json.Data) (change : Result ⊤ Fault) → IndexStands analyze old c x
      → IfErr change (λ fault. fault ≡ faults.Limit → (doc : Document) × (read_data c.schema value ≡ Ok doc) × engine.AddPasses c x.state old doc)
      → ((doc : Document) → read_data c.schema value ≡ Ok doc → IfErr change (λ fault. fault ≡ faults.Limit → ¬ engine.HasLongSlot old doc → engine.state_of new ≡ calls.writer_closed))
      → LimitStays (settings_of old) (requests.add_doc value) (calls.add_value value) change
  add_stays old value (Ok u) was passes closed accepted adds stands = tt
  add_stays old value (Err fault) was passes closed accepted adds stands = λ limit again.
      let found = passes limit in
      let doc = found.0 in
      let read = found.1 in
      let fields : c.schema ≡ schema_of old = ap (λ (k : calls.Configuration). k.schema) was.made in
      elim (slot_is c.schema (settings_of old) doc) [
        | inl long ↦ (doc, read, long)
        | inr short ↦ absurd (not_ready (sym (closed doc read limit (subst (λ (s : Schema). ¬ IsSlotTooLong s (settings_of old) doc) fields short)) ∙ sym stands.status ∙ ready_then x.status (calls.own_fault c x.state (calls.add_value value)) accepted))
      ]

  -- after an add of a document whose slot is too long the writer isn't closed
  pub add_closes : (old : Index D A d an) (value : json.Data) (change : Result ⊤ Fault) → IndexStands analyze old c x
      → ((doc : Document) → read_data c.schema value ≡ Ok doc → engine.HasLongSlot old doc → OnErr change (IndexStands analyze new c x))
      → calls.call_fault c x (calls.add_value value) ≡ None → IndexStands analyze new c (closed_writer x) → OnErr change (MayClose c (settings_of old) x (Some (requests.add_doc value)))
  add_closes old value (Ok u) was long accepted closed = tt
  add_closes old value (Err fault) was long accepted closed = (
    accepted,
    λ too_long.
        let fields : c.schema ≡ schema_of old = ap (λ (k : calls.Configuration). k.schema) was.made in
        let stands = long too_long.0 too_long.1 (subst (λ (s : Schema). IsSlotTooLong s (settings_of old) too_long.0) fields too_long.2) in
        not_ready (closed.status ∙ sym stands.status ∙ ready_then x.status (calls.own_fault c x.state (calls.add_value value)) accepted),
  )

-- ---- a session

module _ {D A : Type 0} {d : devices.Ghosts D} {a : analyzers.Ghosts A} where
  -- over an honest device a session stands for what its index does
  pub index_left : (s : steps.Session) (after : Session D A d a) (old new : Index D A d a) (fields : Schema) (numbers : Settings) (x : calls.Index) (r : requests.Request) (fault : Fault)
      → s.stage ≡ steps.index_of fields numbers x → after.stage ≡ Some (Standing new) → IsIndex a.knows_name a.analyze s.analysis old fields numbers x → KeepsMaking old new → IsTrue (d.honest (device_of old))
      → OnlyStops a.analyze old new (steps.configuration_of fields s.analysis.analyze numbers) x r fault → (t : steps.Session) × IsLeft s (Some r) fault t × StandsFor after t
  index_left s after old new fields numbers x r fault same is index made honest left = elim left.stands [
    | inl (stays, stands) ↦ (session x, (refl, inl (stayed stays, sym same)), standing x refl stands (in_file_still old new x x made left.file refl index.rests))
    | inr (closes, stands) ↦ (session (closed_writer x), (refl, inr (inl (closed closes))), standing (closed_writer x) refl stands (λ h ready. absurd (not_ready ready)))
  ]
    where
      stayed : MayStay fields (settings_of old) (Some r) fault → MayStayAt s.stage (Some r) fault
      stayed stays = subst (λ (t : steps.Stage). MayStayAt t (Some r) fault) (sym same) (subst (λ (u : Settings). MayStay fields u (Some r) fault) index.numbers stays)

      closed : MayClose (steps.configuration_of fields s.analysis.analyze numbers) (settings_of old) x (Some r) → ClosesWriter s.analysis.analyze (Some r) s.stage (steps.index_of fields numbers (closed_writer x))
      closed closes = subst (λ (t : steps.Stage). ClosesWriter s.analysis.analyze (Some r) t (steps.index_of fields numbers (closed_writer x))) (sym same)
          (subst (λ (u : Settings). MayClose (steps.configuration_of fields s.analysis.analyze numbers) u x (Some r)) index.numbers closes, refl)

      session : calls.Index → steps.Session
      session y = record s { stage = steps.index_of fields numbers y }

      standing : (y : calls.Index) → y.state ≡ x.state → IndexStands a.analyze new (steps.configuration_of fields s.analysis.analyze numbers) y → IsInFile new y → StandsFor after (session y)
      standing y state stands rests = subst (λ o. HasStage a.knows_name a.analyze s.analysis o (steps.index_of fields numbers y)) (sym is) (record {
        analysis = index.analysis ∙ ap (analysis_of a.knows_name a.analyze) (sym made.analyzer);
        fields = made.schema ∙ index.fields;
        numbers = made.settings ∙ index.numbers;
        stands = inl stands;
        rests = rests;
        known = inr (held_kept d.honest d.content s.analysis.analyze (device_of old) (device_of new) (steps.file_of fields numbers y.state.groups)
            (subst (λ (state : State). HasHeld d.honest d.content s.analysis.analyze (device_of old) (steps.file_of fields numbers state.groups)) (sym state) (index_held d a a.knows_name a.analyze s.analysis old fields numbers x index honest)) (ap d.honest left.file.0) (ap d.content left.file.0));
      })
