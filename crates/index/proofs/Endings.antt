-- What a request to an index comes to, whatever documents its segments are of.
use Rattle.std.proofs.Common.{Err, IfErr, IfOk, IsTrue, None, Ok, OnOk, Result, Some, ap, false, inl, inr, map, refl, subst, sym, ◌∙◌, ◌≡◌, ◌≢◌, ◌⊎◌, List, ℕ, ℤ}
use Rattle.std.specs.Bool.{⊤}
use Rattle.std.specs.Prelude.{IsErrAnd, OnErr}
use Rattle.std.specs.Cow.{cow_str_bytes}
use Rattle.std.specs.declared.borrow.CowStr.{CowStr}
use Rattle.common.specs.declared.analyzer.Analyzer as analyzers
use Rattle.common.specs.declared.device.Device as devices
use Rattle.definitions.proofs.ReplyTexts.{ok_text}
use Rattle.definitions.proofs.Steps.{refused_call}
use Rattle.definitions.specs.Analyzers.{Analyzer}
use Rattle.definitions.specs.Calls as calls
use Rattle.definitions.specs.FaultNames.{reply_text}
use Rattle.definitions.specs.Query.{Query}
use Rattle.definitions.specs.QueryGrammar.{query_in}
use Rattle.definitions.specs.Reading.{read_data}
use Rattle.definitions.specs.Replies.{count_reply, hits_reply, ok_reply}
use Rattle.definitions.specs.Replying.{stops}
use Rattle.definitions.specs.Requests as requests
use Rattle.definitions.specs.Schema.{Schema}
use Rattle.definitions.specs.Settings.{Settings}
use Rattle.definitions.specs.Step as steps
use Rattle.definitions.specs.Stored.{Named}
use Rattle.definitions.specs.TermGrammar.{term_in}
use Rattle.definitions.specs.Values.{Document}
use Rattle.definitions.specs.declared.fault.Fault.{Fault}
use Rattle.definitions.specs.declared.fault.Fault.TheVariants as faults
use Rattle.engine.specs.HandedOn.{IsSlotTooLong}
use Rattle.engine.specs.Indexes as engine
use Rattle.engine.specs.Indexes.{AreHitsOf, DeletesMore, IsIdle, IsSame, IsStopped, KeepsFile, KeepsWaiting, WaitsMore, schema_of, settings_of, state_of}
use Rattle.engine.specs.Writes.{WritesSegments}
use Rattle.engine.specs.declared.index.Index.{Index}
use Rattle.index.specs.Outcomes.{AllStays, Ends, StaysOrStops, Tells, answered, device_failed, limit_met, memory_wanted, refused, saying, saying_done, slot_damaged}
use Rattle.index.specs.Replying.{GoesOn, HasLongSlot, change_text}
use Rattle.index.proofs.Answering.{going_on, read_deletion, read_search, read_count}
use Rattle.index.proofs.Leavings.{slot_is}
use Rattle.index_file.proofs.ErrorsKept.{error_or_memory as error_in}
use Rattle.index_file.proofs.Faults.{device_failed as device_is_no_memory, memory_or_other}
use Rattle.reply_texts.specs.ToldHits.{told}
use Rattle.serde_json.specs.Data as json

-- ---- faults

-- a fault stops in one of three ways, or the run goes on
pub data HowStops : Fault → Type 0 where
  wants_memory : HowStops faults.OutOfMemory
  meets_limit : HowStops faults.Limit
  fails_device : HowStops faults.Device
  goes_on : (fault : Fault) → stops fault ≡ false → HowStops fault

pub how_stops : (fault : Fault) → HowStops fault
how_stops faults.Closed = goes_on faults.Closed refl
how_stops faults.WriterClosed = goes_on faults.WriterClosed refl
how_stops faults.OutOfMemory = wants_memory
how_stops faults.Device = fails_device
how_stops faults.Limit = meets_limit
how_stops (faults.Damaged gate) = goes_on (faults.Damaged gate) refl
how_stops faults.NoIndex = goes_on faults.NoIndex refl
how_stops faults.NotEmpty = goes_on faults.NotEmpty refl
how_stops faults.TooManyFields = goes_on faults.TooManyFields refl
how_stops faults.UnknownTokenizer = goes_on faults.UnknownTokenizer refl
how_stops faults.NotAnObject = goes_on faults.NotAnObject refl
how_stops faults.TypeError = goes_on faults.TypeError refl
how_stops faults.OverflowError = goes_on faults.OverflowError refl
how_stops faults.ParseError = goes_on faults.ParseError refl
how_stops faults.InvalidBase64 = goes_on faults.InvalidBase64 refl
how_stops faults.FloatValue = goes_on faults.FloatValue refl
how_stops faults.NotIndexable = goes_on faults.NotIndexable refl
how_stops faults.BadRange = goes_on faults.BadRange refl
how_stops faults.TooDeep = goes_on faults.TooDeep refl
how_stops faults.UnknownField = goes_on faults.UnknownField refl
how_stops faults.NotIndexed = goes_on faults.NotIndexed refl
how_stops faults.TypeMismatch = goes_on faults.TypeMismatch refl
how_stops faults.NoPositions = goes_on faults.NoPositions refl
how_stops faults.NotText = goes_on faults.NotText refl
how_stops faults.OffsetTooLarge = goes_on faults.OffsetTooLarge refl
how_stops faults.NoWholeTerm = goes_on faults.NoWholeTerm refl
how_stops faults.PartialExpansion = goes_on faults.PartialExpansion refl
how_stops faults.BadTieBreaker = goes_on faults.BadTieBreaker refl
how_stops faults.ScoreTooLarge = goes_on faults.ScoreTooLarge refl
how_stops faults.DuplicateName = goes_on faults.DuplicateName refl
how_stops faults.BadName = goes_on faults.BadName refl
how_stops faults.BadSchema = goes_on faults.BadSchema refl
how_stops faults.BadSettings = goes_on faults.BadSettings refl
how_stops faults.BadTerm = goes_on faults.BadTerm refl
how_stops faults.BadQuery = goes_on faults.BadQuery refl
how_stops faults.BadRequest = goes_on faults.BadRequest refl
how_stops faults.LineTooLong = goes_on faults.LineTooLong refl
how_stops faults.NotOpen = goes_on faults.NotOpen refl
how_stops faults.AlreadyOpen = goes_on faults.AlreadyOpen refl
how_stops faults.ReadFault = goes_on faults.ReadFault refl
how_stops faults.WriteFault = goes_on faults.WriteFault refl
how_stops faults.FacetParseError = goes_on faults.FacetParseError refl
how_stops faults.BadTokens = goes_on faults.BadTokens refl
how_stops faults.InvalidArgument = goes_on faults.InvalidArgument refl
how_stops faults.FieldNotFound = goes_on faults.FieldNotFound refl

device_no_limit : faults.Device ≢ faults.Limit
device_no_limit is = cc

limit_no_device : faults.Limit ≢ faults.Device
limit_no_device is = cc

-- ---- what is told

err_is_no_answer : {T : Type 0} (t : T) (fault : Fault) → Ok t ≡ Err fault → ⊥
err_is_no_answer t fault is = cc

-- the reply to a change
pub change_tells : {Z : Type 0} (change : Result ⊤ Fault) (result : Result (CowStr Z) Fault) → IfOk result (λ text. cow_str_bytes text ≡ change_text change) → OnOk result (GoesOn change) → IfErr result (λ fault. IsTrue (stops fault)) → IfErr result (λ fault. change ≡ Err fault) → Tells (saying_done change) result
change_tells (Ok done) (Ok text) told on stop same = told ∙ sym ok_text
change_tells (Ok done) (Err e) told on stop same = absurd (err_is_no_answer done e same)
change_tells (Err fault) (Ok text) told on stop same = (on, told)
change_tells (Err fault) (Err e) told on stop same = let is : e ≡ fault = sym (ap error_in same) in (subst (λ f. IsTrue (stops f)) is stop, is)

-- and to what is refused
pub refusal_tells : {Z : Type 0} (fault : Fault) (result : Result (CowStr Z) Fault) → IfOk result (λ text. cow_str_bytes text ≡ reply_text fault) → OnOk result (stops fault ≡ false) → IfErr result (λ e. IsTrue (stops e)) → IfErr result (λ e. e ≡ fault) → Tells (Err fault) result
refusal_tells fault (Ok text) told on stop same = (on, told)
refusal_tells fault (Err e) told on stop same = (subst (λ f. IsTrue (stops f)) same stop, same)

-- where memory is wanting for the reply
pub memory_tells : {Z : Type 0} (said : json.Data) (result : Result (CowStr Z) Fault) → IsErrAnd result (λ e. e ≡ faults.OutOfMemory) → Tells (Ok said) result
memory_tells said (Ok text) is = absurd is
memory_tells said (Err e) is = is

-- what holds of an error holds of an outcome that has it
pub told_error : {T : Type 0} (r : Result T Fault) (said : T → json.Data) (fault : Fault) (P : Result json.Data Fault → Type 0) → IsErrAnd r (λ e. e ≡ fault) → P (Err fault) → P (saying r said)
told_error (Ok t) said fault P is p = absurd is
told_error (Err e) said fault P is p = subst (λ f. P (Err f)) (sym is) p

-- ---- a slot that is too long

abbrev document_or : Document → Result Document Fault → Document
document_or doc (Ok other) = other
document_or doc (Err fault) = doc

long_or_not : (schema : Schema) (settings : Settings) (value : json.Data) (read : Result Document Fault) → read_data schema value ≡ read → HasLongSlot schema settings value ⊎ ¬ HasLongSlot schema settings value
long_or_not schema settings value (Err fault) is = inr (λ long. err_is_no_answer long.0 fault (sym long.1 ∙ is))
long_or_not schema settings value (Ok doc) is = elim (slot_is schema settings doc) [
  | inl long ↦ inl (doc, is, long)
  | inr short ↦ inr (λ long. short (subst (λ (e : Document). IsSlotTooLong schema settings e) (ap (document_or doc) (sym long.1 ∙ is)) long.2))
]

-- ---- an index

module _ {D A : Type 0} {d : devices.Ghosts D} {an : analyzers.Ghosts A} (index : Index D A d an) where
  -- an index of which nothing was asked
  pub all_stays : AllStays index index
  all_stays = (record { made = record { analyzer = refl; schema = refl; settings = refl }; members = refl; waiting = refl; status = refl }, (refl, refl, refl))

module _ {D A : Type 0} {d : devices.Ghosts D} {an : analyzers.Ghosts A} (analyze : A → Analyzer) (old new : Index D A d an) (c : calls.Configuration) (x : calls.Index) where
  -- a refusal, or memory that ran out, before anything changed
  pub early_ends : (r : requests.Request) (fault : Fault) → AllStays old new → (fault ≢ faults.OutOfMemory → steps.index_step c x r ≡ steps.refusing fault x) → Ends analyze old new c x r (Err fault)
  early_ends r fault stays told = elim (memory_or_other fault) [
    | inl memory ↦ subst (λ e. Ends analyze old new c x r (Err e)) (sym memory) (memory_wanted (stays.1, inl stays.0))
    | inr other ↦ refused fault (told other) stays
  ]

  -- likewise of a call that was read
  read_ends : (r : requests.Request) (call : calls.Call) (fault : Fault) → steps.call_in c.schema r ≡ Ok call → AllStays old new → calls.call_fault c x call ≡ Some fault → Ends analyze old new c x r (Err fault)
  read_ends r call fault read stays told = refused fault (refused_call c x r call fault read told) stays

  -- ---- an add

  abbrev AddTold : json.Data → Fault → Type 0
  AddTold value fault = fault ≢ faults.OutOfMemory → fault ≢ faults.Limit → calls.call_fault c x (calls.add_value value) ≡ Some fault

  add_fails : (value : json.Data) (fault : Fault) → HowStops fault → AddTold value fault → (fault ≢ faults.OutOfMemory → fault ≢ faults.Limit → IsSame old new) → StaysOrStops old new (requests.add_doc value) → Ends analyze old new c x (requests.add_doc value) (Err fault)
  add_fails value fault wants_memory told same stops = memory_wanted stops
  add_fails value fault meets_limit told same stops = limit_met refl stops
  add_fails value fault fails_device told same stops =
      read_ends (requests.add_doc value) (calls.add_value value) faults.Device refl (same device_is_no_memory device_no_limit, stops.0) (told device_is_no_memory device_no_limit)
  add_fails value fault (goes_on f on) told same stop =
      let memory = going_on fault faults.OutOfMemory on refl in
      let limit = going_on fault faults.Limit on refl in
      read_ends (requests.add_doc value) (calls.add_value value) fault refl (same memory limit, stop.0) (told memory limit)

  add_stops : (value : json.Data) → KeepsFile old new → IsSame old new ⊎ IsStopped calls.writer_closed old new → ((doc : Document) → read_data (schema_of old) value ≡ Ok doc → engine.HasLongSlot old doc → IsSame old new) → StaysOrStops old new (requests.add_doc value)
  add_stops value file (inl same) beside = (file, inl same)
  add_stops value file (inr stopped) beside = elim (long_or_not (schema_of old) (settings_of old) value (read_data (schema_of old) value) refl) [
    | inl long ↦ (file, inl (beside long.0 long.1 long.2))
    | inr short ↦ (file, inr (short, stopped))
  ]

  pub add_ends : (value : json.Data) (change : Result ⊤ Fault) → IfErr change (AddTold value) → OnOk change (calls.call_fault c x (calls.add_value value) ≡ None) → IfErr change (λ fault. fault ≢ faults.OutOfMemory → fault ≢ faults.Limit → IsSame old new) → OnErr change (IsSame old new ⊎ IsStopped calls.writer_closed old new) → OnOk change (state_of new ≡ calls.ready)
      → ((doc : Document) → read_data (schema_of old) value ≡ Ok doc → engine.HasLongSlot old doc → OnErr change (IsSame old new)) → ((doc : Document) → read_data (schema_of old) value ≡ Ok doc → OnOk change (WaitsMore analyze doc old new)) → KeepsFile old new
      → Ends analyze old new c x (requests.add_doc value) (saying_done change)
  add_ends value (Ok done) told admitted same stopped ready beside waits file = answered (calls.add_value value) ok_reply refl admitted refl (waits, ready, file)
  add_ends value (Err fault) told admitted same stopped ready beside waits file = add_fails value fault (how_stops fault) told same (add_stops value file stopped beside)

  -- ---- a deletion

  pub delete_ends : (value : json.Data) (term : List ℕ) (change : Result ⊤ Fault) → term_in c.schema value ≡ Some term → IfErr change (λ fault. fault ≢ faults.OutOfMemory → calls.call_fault c x (calls.delete_term term) ≡ Some fault) → OnOk change (calls.call_fault c x (calls.delete_term term) ≡ None) → OnErr change (IsSame old new) → OnOk change (state_of new ≡ calls.ready)
      → OnOk change (DeletesMore term old new) → KeepsFile old new → Ends analyze old new c x (requests.delete_docs value) (saying_done change)
  delete_ends value term (Ok done) read told admitted same ready waits file = answered (calls.delete_term term) ok_reply (read_deletion c value term read) admitted refl (waits, ready, file)
  delete_ends value term (Err fault) read told admitted same ready waits file =
      early_ends (requests.delete_docs value) fault (same, file) (λ other. refused_call c x (requests.delete_docs value) (calls.delete_term term) fault (read_deletion c value term read) (told other))

  -- ---- a commit or a merge

  abbrev WriteTold : calls.Call → Fault → Type 0
  WriteTold call fault = fault ≢ faults.OutOfMemory → fault ≢ faults.Device → fault ≢ faults.Limit → calls.call_fault c x call ≡ Some fault

  commit_fails : (fault : Fault) → HowStops fault → WriteTold calls.commit_pending fault → (fault ≢ faults.OutOfMemory → fault ≢ faults.Device → fault ≢ faults.Limit → IsSame old new) → ((fault ≡ faults.OutOfMemory) ⊎ (fault ≡ faults.Limit) → IsStopped calls.writer_closed old new) → (fault ≡ faults.Device → IsStopped calls.closed old new)
      → WritesSegments calls.commit_pending old new (Err fault) → (fault ≢ faults.Device → KeepsFile old new) → Ends analyze old new c x requests.commit_all (Err fault)
  commit_fails fault wants_memory told same half failed segments kept = memory_wanted (kept (λ is. device_is_no_memory (sym is)), inr (tt, half (inl refl)))
  commit_fails fault meets_limit told same half failed segments kept = limit_met refl (kept limit_no_device, inr (tt, half (inr refl)))
  commit_fails fault fails_device told same half failed segments kept = device_failed calls.commit_pending refl refl segments (failed refl)
  commit_fails fault (goes_on f on) told same half failed segments kept =
      let memory = going_on fault faults.OutOfMemory on refl in
      let device = going_on fault faults.Device on refl in
      let limit = going_on fault faults.Limit on refl in
      read_ends requests.commit_all calls.commit_pending fault refl (same memory device limit, kept device) (told memory device limit)

  pub commit_ends : (change : Result ⊤ Fault) → IfErr change (WriteTold calls.commit_pending) → OnOk change (calls.call_fault c x calls.commit_pending ≡ None) → IfErr change (λ fault. fault ≢ faults.OutOfMemory → fault ≢ faults.Device → fault ≢ faults.Limit → IsSame old new)
      → IfErr change (λ fault. (fault ≡ faults.OutOfMemory) ⊎ (fault ≡ faults.Limit) → IsStopped calls.writer_closed old new) → IfErr change (λ fault. fault ≡ faults.Device → IsStopped calls.closed old new) → OnOk change (IsIdle new) → WritesSegments calls.commit_pending old new change
      → IfErr change (λ fault. fault ≢ faults.Device → KeepsFile old new) → Ends analyze old new c x requests.commit_all (saying_done change)
  commit_ends (Ok done) told admitted same half failed idle segments kept = answered calls.commit_pending ok_reply refl admitted refl (idle, segments)
  commit_ends (Err fault) told admitted same half failed idle segments kept = commit_fails fault (how_stops fault) told same half failed segments kept

  abbrev MergeTold : calls.Call → Fault → Type 0
  MergeTold call fault = fault ≢ faults.OutOfMemory → fault ≢ faults.Device → fault ≢ faults.Limit → (fault ≡ faults.Damaged None) ⊎ (calls.call_fault c x call ≡ Some fault)

  merge_fails : (from to : ℕ) (fault : Fault) → HowStops fault → MergeTold (calls.merge_range from to) fault → (fault ≢ faults.Device → IsSame old new) → (fault ≡ faults.Device → IsStopped calls.closed old new) → WritesSegments (calls.merge_range from to) old new (Err fault) → (fault ≢ faults.Device → KeepsFile old new) → Ends analyze old new c x (requests.merge_groups from to) (Err fault)
  merge_fails from to fault wants_memory told same failed segments kept = let other : faults.OutOfMemory ≢ faults.Device = λ is. device_is_no_memory (sym is) in memory_wanted (kept other, inl (same other))
  merge_fails from to fault meets_limit told same failed segments kept = limit_met refl (kept limit_no_device, inl (same limit_no_device))
  merge_fails from to fault fails_device told same failed segments kept = device_failed (calls.merge_range from to) refl refl segments (failed refl)
  merge_fails from to fault (goes_on f on) told same failed segments kept =
      let device = going_on fault faults.Device on refl in
      let stays : AllStays old new = (same device, kept device) in
      elim (told (going_on fault faults.OutOfMemory on refl) device (going_on fault faults.Limit on refl)) [
        | inl damaged ↦ subst (λ e. Ends analyze old new c x (requests.merge_groups from to) (Err e)) (sym damaged) (slot_damaged refl stays)
        | inr refuses ↦ read_ends (requests.merge_groups from to) (calls.merge_range from to) fault refl stays refuses
      ]

  pub merge_ends : (from to : ℕ) (change : Result ⊤ Fault) → IfErr change (MergeTold (calls.merge_range from to)) → OnOk change (calls.call_fault c x (calls.merge_range from to) ≡ None) → IfErr change (λ fault. fault ≢ faults.Device → IsSame old new) → IfErr change (λ fault. fault ≡ faults.Device → IsStopped calls.closed old new)
      → OnOk change (KeepsWaiting old new) → WritesSegments (calls.merge_range from to) old new change → IfErr change (λ fault. fault ≢ faults.Device → KeepsFile old new) → Ends analyze old new c x (requests.merge_groups from to) (saying_done change)
  merge_ends from to (Ok done) told admitted same failed waits segments kept = answered (calls.merge_range from to) ok_reply refl admitted refl (waits, segments)
  merge_ends from to (Err fault) told admitted same failed waits segments kept = merge_fails from to fault (how_stops fault) told same failed segments kept

  -- ---- a search or a count

  pub search_ends : {T : Type 0} (value : json.Data) (k : ℕ) (q : Query) (found : Result T Fault) (hits : T → List (ℤ × Named)) → query_in c.schema value ≡ Some q → IfOk found (λ t. AreHitsOf old k (hits t)) → IfErr found (λ fault. fault ≢ faults.OutOfMemory → (fault ≡ faults.Damaged None) ⊎ (calls.call_fault c x (calls.search_best q k) ≡ Some fault)) → OnOk found (calls.call_fault c x (calls.search_best q k) ≡ None)
      → AllStays old new → Ends analyze old new c x (requests.search_docs value k) (saying found (λ t. hits_reply (map told (hits t))))
  search_ends value k q (Ok t) hits read are refuses admitted stays = answered (calls.search_best q k) (hits_reply (map told (hits t))) (read_search c value k q read) admitted (hits t, are, refl) stays
  search_ends value k q (Err fault) hits read are refusing admitted stays = elim (memory_or_other fault) [
    | inl memory ↦ subst (λ e. Ends analyze old new c x (requests.search_docs value k) (Err e)) (sym memory) (memory_wanted (stays.1, inl stays.0))
    | inr other ↦ elim (refusing other) [
      | inl damaged ↦ subst (λ e. Ends analyze old new c x (requests.search_docs value k) (Err e)) (sym damaged) (slot_damaged refl stays)
      | inr refuses ↦ read_ends (requests.search_docs value k) (calls.search_best q k) fault (read_search c value k q read) stays refuses
    ]
  ]

  pub count_ends : (value : json.Data) (q : Query) (found : Result ℕ Fault) → query_in c.schema value ≡ Some q → IfErr found (λ fault. fault ≢ faults.OutOfMemory → calls.call_fault c x (calls.count_all q) ≡ Some fault) → OnOk found (calls.call_fault c x (calls.count_all q) ≡ None) → AllStays old new → Ends analyze old new c x (requests.count_docs value) (saying found count_reply)
  count_ends value q (Ok count) read told admitted stays = answered (calls.count_all q) (count_reply count) (read_count c value q read) admitted (count, refl) stays
  count_ends value q (Err fault) read told admitted stays = early_ends (requests.count_docs value) fault stays (λ other. refused_call c x (requests.count_docs value) (calls.count_all q) fault (read_count c value q read) (told other))
