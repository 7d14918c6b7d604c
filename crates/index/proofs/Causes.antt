-- Why a reply is one of the errors that stop.
use Rattle.std.proofs.Common.{[], Bool, Err, IfErr, IsTrue, None, Ok, OnOk, Option, Result, Some, ap, arith, false, if◌then◌else◌, inl, inr, is_some, nat_le, nat_lt, not, ok_or, refl, subst, sym, true, true≢false, ◌++◌, ◌∙◌, ◌∷◌, ◌≡◌, ◌≢◌, ◌⊎◌, length, List, ℕ}
use Rattle.std.specs.Prelude.{IsErrOf}
use Rattle.std.specs.Bool.{⊤}
use Rattle.std.specs.Result.{result_map_both}
use Rattle.definitions.specs.Calls as calls
use Rattle.definitions.specs.Disk.{HasCause}
use Rattle.definitions.specs.Making.{are_analyzed, making_fault, max_index_fields}
use Rattle.definitions.specs.Replying.{stops}
use Rattle.definitions.specs.Schema.{Entry, Schema, field_named, is_valid_field_name, max_fields}
use Rattle.definitions.specs.SchemaGrammar.{entry_in, fault_read, schema_in, then_with, with_entries_in, with_entry}
use Rattle.definitions.specs.Settings.{Settings}
use Rattle.definitions.specs.SettingsGrammar.{settings_in, weighs_named}
use Rattle.definitions.specs.Step as steps
use Rattle.definitions.specs.Refusing.{first_fault}
use Rattle.definitions.specs.declared.fault.Fault.{Fault}
use Rattle.definitions.specs.declared.fault.Fault.TheVariants as faults
use Rattle.definitions.proofs.OwnFaults.{is_failure, refused_by_no_failure}
use Rattle.index_file.proofs.ErrorsKept.{error_or_memory as error_in}
use Rattle.index_file.proofs.Faults.{device_failed, is_limit, memory_or_other}
use Rattle.serde_json.specs.Data as json

ok_is_no_error : {T : Type 0} (t : T) (fault : Fault) → IsErrOf (Ok t) fault → ⊥
ok_is_no_error t fault e = cc

none_is_no_fault : (fault : Fault) → None ≡ Some fault → ⊥
none_is_no_fault fault e = cc

pub limit_no_memory : faults.Limit ≢ faults.OutOfMemory
limit_no_memory e = true≢false (ap is_limit e)

-- ---- what doesn't stop

failure_stops : (fault : Fault) → is_failure fault ≡ false → stops fault ≡ false
failure_stops faults.Closed is = refl
failure_stops faults.WriterClosed is = refl
failure_stops faults.OutOfMemory is = absurd (true≢false is)
failure_stops faults.Device is = absurd (true≢false is)
failure_stops faults.Limit is = absurd (true≢false is)
failure_stops (faults.Damaged gate) is = refl
failure_stops faults.NoIndex is = refl
failure_stops faults.NotEmpty is = refl
failure_stops faults.TooManyFields is = refl
failure_stops faults.UnknownTokenizer is = refl
failure_stops faults.NotAnObject is = refl
failure_stops faults.TypeError is = refl
failure_stops faults.OverflowError is = refl
failure_stops faults.ParseError is = refl
failure_stops faults.InvalidBase64 is = refl
failure_stops faults.FloatValue is = refl
failure_stops faults.NotIndexable is = refl
failure_stops faults.BadRange is = refl
failure_stops faults.TooDeep is = refl
failure_stops faults.UnknownField is = refl
failure_stops faults.NotIndexed is = refl
failure_stops faults.TypeMismatch is = refl
failure_stops faults.NoPositions is = refl
failure_stops faults.NotText is = refl
failure_stops faults.OffsetTooLarge is = refl
failure_stops faults.NoWholeTerm is = refl
failure_stops faults.PartialExpansion is = refl
failure_stops faults.BadTieBreaker is = refl
failure_stops faults.ScoreTooLarge is = refl
failure_stops faults.DuplicateName is = refl
failure_stops faults.BadName is = refl
failure_stops faults.BadSchema is = refl
failure_stops faults.BadSettings is = refl
failure_stops faults.BadTerm is = refl
failure_stops faults.BadQuery is = refl
failure_stops faults.BadRequest is = refl
failure_stops faults.LineTooLong is = refl
failure_stops faults.NotOpen is = refl
failure_stops faults.AlreadyOpen is = refl
failure_stops faults.ReadFault is = refl
failure_stops faults.WriteFault is = refl
failure_stops faults.FacetParseError is = refl
failure_stops faults.BadTokens is = refl
failure_stops faults.InvalidArgument is = refl
failure_stops faults.FieldNotFound is = refl

-- what refuses a call
pub call_goes_on : (c : calls.Configuration) (x : calls.Index) (call : calls.Call) (fault : Fault) → calls.call_fault c x call ≡ Some fault → stops fault ≡ false
call_goes_on c x call fault is = failure_stops fault (refused_by_no_failure c x call fault is)

abbrev option_stops : Option Fault → Bool
option_stops None = false
option_stops (Some fault) = stops fault

-- what a status refuses
pub status_goes_on : (status : calls.Status) (reads : Bool) (fault : Fault) → calls.status_fault status reads ≡ Some fault → stops fault ≡ false
status_goes_on calls.ready reads fault is = absurd (none_is_no_fault fault is)
status_goes_on calls.writer_closed true fault is = absurd (none_is_no_fault fault is)
status_goes_on calls.writer_closed false fault is = sym (ap option_stops is)
status_goes_on calls.closed reads fault is = sym (ap option_stops is)

-- what no index can be made of
pub making_goes_on : (knows : List ℕ → Bool) (schema : Schema) (settings : Settings) (fault : Fault) → making_fault knows schema settings ≡ Some fault → stops fault ≡ false
making_goes_on knows schema settings fault is = sym (ap option_stops is) ∙ tests (nat_lt max_index_fields (length schema)) (not (are_analyzed knows schema)) (not (weighs_named schema settings))
  where
    tests : (many unknown unnamed : Bool) → option_stops (first_fault ((many, faults.TooManyFields) ∷ (unknown, faults.UnknownTokenizer) ∷ (unnamed, faults.BadSettings) ∷ [])) ≡ false
    tests true unknown unnamed = refl
    tests false true unnamed = refl
    tests false false true = refl
    tests false false false = refl

abbrev result_stops : {T : Type 0} → Result T Fault → Bool
result_stops (Ok t) = false
result_stops (Err fault) = stops fault

-- a field that isn't added to a schema
entry_goes_on : (schema : Schema) (o : Option Entry) → result_stops (with_entry schema o) ≡ false
entry_goes_on schema None = refl
entry_goes_on schema (Some e) = tests (is_some (field_named schema e.name)) (not (is_valid_field_name e.name)) (nat_le max_fields (length schema))
  where
    tests : (twice bad many : Bool) → result_stops (result_map_both (λ s. s) fault_read (if twice then Err faults.DuplicateName else (if bad then Err faults.BadName else (if many then Err faults.TooManyFields else Ok (schema ++ (e ∷ [])))))) ≡ false
    tests true bad many = refl
    tests false true many = refl
    tests false false true = refl
    tests false false false = refl

then_goes_on : (r : Result Schema Fault) (f : Schema → Result Schema Fault) → result_stops r ≡ false → ((schema : Schema) → result_stops (f schema) ≡ false) → result_stops (then_with r f) ≡ false
then_goes_on (Ok schema) f is all = all schema
then_goes_on (Err fault) f is all = is

entries_go_on : (schema : Schema) (ds : json.Items) → result_stops (with_entries_in schema ds) ≡ false
entries_go_on schema json.no_items = refl
entries_go_on schema (json.item d ds) = then_goes_on (with_entry schema (entry_in d)) (λ more. with_entries_in more ds) (entry_goes_on schema (entry_in d)) (λ more. entries_go_on more ds)

schema_goes_on : (d : json.Data) → result_stops (schema_in d) ≡ false
schema_goes_on json.null = refl
schema_goes_on (json.boolean b) = refl
schema_goes_on (json.number n) = refl
schema_goes_on (json.string s) = refl
schema_goes_on (json.array ds) = entries_go_on [] ds
schema_goes_on (json.object ms) = refl

settings_go_on : (schema : Schema) (more : Option json.Data) → result_stops (steps.settings_sent schema more) ≡ false
settings_go_on schema None = refl
settings_go_on schema (Some d) = read (settings_in schema d)
  where
    read : (o : Option Settings) → result_stops (ok_or o faults.BadSettings) ≡ false
    read None = refl
    read (Some settings) = refl

-- a schema or settings that aren't read
pub unread_goes_on : (d : json.Data) (more : Option json.Data) (fault : Fault) → (schema_in d ≡ Err fault) ⊎ ((fields : Schema) × (schema_in d ≡ Ok fields) × (steps.settings_sent fields more ≡ Err fault)) → stops fault ≡ false
unread_goes_on d more fault (inl schema) = sym (ap result_stops schema) ∙ schema_goes_on d
unread_goes_on d more fault (inr (fields, schema, settings)) = sym (ap result_stops settings) ∙ settings_go_on fields more

-- ---- errors

-- an error that is another call's
pub same_error : {T U : Type 0} (change : Result T Fault) (r : Result U Fault) (fault : Fault) → IfErr r (λ e. change ≡ Err e) → IsErrOf r fault → IsErrOf change fault
same_error change (Ok u) fault same is = absurd (ok_is_no_error u fault is)
same_error change (Err e) fault same is = same ∙ ap Err (ap error_in is)

-- has that call's cause
pub same_cause : {T U : Type 0} (before now : ℕ) (change : Result T Fault) (r : Result U Fault) → IfErr r (λ e. change ≡ Err e) → HasCause before now change → HasCause before now r
same_cause before now change r same c = record { later = c.later; cause = λ device. c.cause (same_error change r faults.Device same device) }

-- running out of memory needs no cause
pub memory_cause : {T : Type 0} (n : ℕ) (r : Result T Fault) → IfErr r (λ e. e ≡ faults.OutOfMemory) → HasCause n n r
memory_cause n (Ok t) is = record { later = omega arith; cause = λ device. absurd (ok_is_no_error t faults.Device device) }
memory_cause n (Err e) is = record { later = omega arith; cause = λ device. absurd (device_failed (sym (ap error_in device) ∙ is)) }

-- and is no limit
pub memory_no_limit : {T : Type 0} (r : Result T Fault) → IfErr r (λ e. e ≡ faults.OutOfMemory) → ¬ IsErrOf r faults.Limit
memory_no_limit (Ok t) is limit = ok_is_no_error t faults.Limit limit
memory_no_limit (Err e) is limit = limit_no_memory (sym (ap error_in limit) ∙ is)

-- a refusal that stops is one for memory
pub stop_is_memory : {T : Type 0} (fault : Fault) (r : Result T Fault) → (fault ≢ faults.OutOfMemory → stops fault ≡ false) → IfErr r (λ e. e ≡ fault) → IfErr r (λ e. IsTrue (stops e)) → IfErr r (λ e. e ≡ faults.OutOfMemory)
stop_is_memory fault (Ok t) on same stop = tt
stop_is_memory fault (Err e) on same stop = elim (memory_or_other fault) [
  | inl memory ↦ same ∙ memory
  | inr other ↦ absurd (true≢false (sym stop ∙ ap stops same ∙ on other))
]

-- and so is that of a change that its tests refuse
pub change_is_memory : {T U : Type 0} (change : Result T Fault) (r : Result U Fault) → IfErr change (λ fault. fault ≢ faults.OutOfMemory → stops fault ≡ false) → IfErr r (λ e. change ≡ Err e) → IfErr r (λ e. IsTrue (stops e)) → IfErr r (λ e. e ≡ faults.OutOfMemory)
change_is_memory change (Ok u) on same stop = tt
change_is_memory change (Err e) on same stop = stop_is_memory {T = ⊤} e (Err e) (subst (λ ch. IfErr ch (λ fault. fault ≢ faults.OutOfMemory → stops fault ≡ false)) same on) refl stop

-- no answer is an error
pub any_answer : {T E : Type 0} (r : Result T E) (P : Type 0) → P → OnOk r P
any_answer (Ok t) P p = p
any_answer (Err e) P p = tt

-- an add's error is no failure of the device, so that it needs no cause
pub add_cause : {T U : Type 0} (c : calls.Configuration) (x : calls.Index) (call : calls.Call) (n : ℕ) (change : Result T Fault) (r : Result U Fault) → IfErr change (λ fault. fault ≢ faults.OutOfMemory → fault ≢ faults.Limit → calls.call_fault c x call ≡ Some fault) → IfErr r (λ e. change ≡ Err e) → HasCause n n r
add_cause c x call n change (Ok u) exact same = record { later = omega arith; cause = λ device. absurd (let e = device in cc) }
add_cause c x call n change (Err fault) exact same = record { later = omega arith; cause = λ device. absurd (no_device (sym (ap error_in device))) }
  where
    refused : fault ≢ faults.OutOfMemory → fault ≢ faults.Limit → calls.call_fault c x call ≡ Some fault
    refused = (subst (λ ch. IfErr ch (λ e. e ≢ faults.OutOfMemory → e ≢ faults.Limit → calls.call_fault c x call ≡ Some e)) same exact)

    no_device : faults.Device ≡ fault → ⊥
    no_device is =
        let other : fault ≢ faults.OutOfMemory = λ memory. device_failed (is ∙ memory) in
        let no_limit : fault ≢ faults.Limit = λ limit. let e : faults.Device ≡ faults.Limit = is ∙ limit in cc in
        true≢false (ap is_failure is ∙ refused_by_no_failure c x call fault (refused other no_limit))

-- what holds of a limit holds where there is one
pub met_limit : {T : Type 0} (r : Result T Fault) (P : Type 0) → IfErr r (λ fault. fault ≡ faults.Limit → P) → IsErrOf r faults.Limit → P
met_limit (Ok t) P h limit = absurd (let e = limit in cc)
met_limit (Err fault) P h limit = h (ap error_in limit)
