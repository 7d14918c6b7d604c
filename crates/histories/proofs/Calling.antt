-- What each call of an index does, from what its own clauses say.
use Rattle.std.proofs.Common.{Bool, Err, IfErr, IfOk, IsTrue, List, None, Ok, OnOk, Result, Some, ap, arith, false, inl, length, map, refl, subst, sym, true, true≢false, ◌∙◌, ◌≡◌, ◌≢◌, ⊎_elim, ℕ, ℤ}
use Rattle.std.specs.Prelude.{IsErrOf}
use Rattle.std.specs.Bool.{⊤}
use Rattle.common.specs.declared.analyzer.Analyzer as analyzers
use Rattle.common.specs.declared.device.Device as devices
use Rattle.definitions.proofs.Bounds.{first_is_none as not_by_status}
use Rattle.definitions.proofs.CallRuns.{started, weaker}
use Rattle.definitions.proofs.OwnFaults.{any_err, is_failure, refused_by_no_failure, taken_or_kept}
use Rattle.definitions.specs.Analyzers.{Analyzer}
use Rattle.definitions.specs.Calls as calls
use Rattle.definitions.specs.Disk.{HasCause, IsImage, Unsynced, settled}
use Rattle.definitions.specs.Moments.{LeavesOnly}
use Rattle.definitions.specs.Query.{Query}
use Rattle.definitions.specs.Scanning.{scan, scan_count}
use Rattle.definitions.specs.State.{State, committed}
use Rattle.definitions.specs.Stored.{Named}
use Rattle.definitions.specs.Values.{Document}
use Rattle.definitions.specs.declared.fault.Fault.{Fault}
use Rattle.definitions.specs.declared.fault.Fault.TheVariants as faults
use Rattle.index_state.specs.Hits.{scored}
use Rattle.index_file.proofs.CallByCall.{resting}
use Rattle.index_file.proofs.Faults.{memory_or_other}
use Rattle.index_file.proofs.Images.{rest_images}
use Rattle.layouts.specs.RecordFiles.{IsAtRest, IsFile, IsOneOf}
use Rattle.engine.proofs.Commits.{stands_groups}
use Rattle.engine.proofs.FileSayings.{leave_same, rests_say}
use Rattle.histories.proofs.GivenLists.{given_last}
use Rattle.histories.specs.Lists.{HasLists, ImagesHaveLists}
use Rattle.engine.specs.Files.{LeavesOneOf}
use Rattle.histories.specs.Calls.{Answer, IsCalled, IsTold, Passes, answer_to, done, ending, groups_after, hits, number, outcome_of, unless_refused}
use Rattle.engine.specs.Indexes.{CrashLeavesEither, ImagesLeave, IndexRests, IndexStands, KeepsFile, KeepsMaking, analyzer_of, device_of, gate_of, members_of, schema_of, settings_of}
use Rattle.engine.specs.Writes.{Writes}
use Rattle.engine.specs.declared.index.Index.{Index}

-- ---- what a call leaves

-- running out of memory in a call that changes nothing by halves, or its own refusal
pub error_leaves : (c : calls.Configuration) (x : calls.Index) (call : calls.Call) (fault : Fault) → calls.is_commit call ≡ false → (fault ≢ faults.OutOfMemory → calls.call_fault c x call ≡ Some fault) → (fault ≡ faults.OutOfMemory → calls.call_fault c x call ≡ None)
    → calls.Leaves c x call (Err fault) x
error_leaves c x call fault no_commit other memory = ⊎_elim
    (λ (is : fault ≡ faults.OutOfMemory). subst (λ f. calls.Leaves c x call (Err f) x) (sym is) (calls.memory_refused (not_by_status (calls.status_fault x.status (calls.only_reads call)) (calls.own_fault c x.state call) (memory is)) no_commit))
    (λ (is : fault ≢ faults.OutOfMemory). calls.refused fault (other is))
    (memory_or_other fault)

if_err_at : {T : Type 0} (r : Result T Fault) (fault : Fault) (P : Fault → Type 0) → r ≡ Err fault → IfErr r P → P fault
if_err_at r fault P is h = subst (λ q. IfErr q P) is h

-- refused as the definitions do, but where memory, the device or a limit is why
abbrev pub Exact : {T : Type 0} → calls.Configuration → calls.Index → calls.Call → Result T Fault → Type 0
Exact c x call r = IfErr r (λ fault. fault ≢ faults.OutOfMemory → fault ≢ faults.Device → fault ≢ faults.Limit → calls.call_fault c x call ≡ Some fault)

-- a change that isn't refused answers that it is done
pub change_stands : (r : Result ⊤ Fault) (c : calls.Configuration) (x : calls.Index) (call : calls.Call) (P : calls.Index → Type 0) → answer_to c x.state call ≡ done → Exact c x call r → (y : calls.Index) × calls.Leaves c x call r y × P y
    → (y : calls.Index) × calls.Leaves c x call (ending (outcome_of (λ (u : ⊤). done) r)) y × IsTold c x call (outcome_of (λ (u : ⊤). done) r) × P y
change_stands (Ok u) c x call P is exact (y, leaves, p) = (y, leaves, record { answered = sym is; exact = tt }, p)
change_stands (Err fault) c x call P is exact (y, leaves, p) = (y, leaves, record { answered = tt; exact = exact }, p)

-- ---- why a call fails

abbrev is_memory : Fault → Bool
is_memory faults.OutOfMemory = true
is_memory _ = false

abbrev is_limit : Fault → Bool
is_limit faults.Limit = true
is_limit _ = false

no_memory_by : (fault other : Fault) → fault ≡ other → is_memory other ≡ false → fault ≢ faults.OutOfMemory
no_memory_by fault other is differs memory = true≢false (sym (ap is_memory memory) ∙ (ap is_memory is ∙ differs))

no_limit_by : (fault other : Fault) → fault ≡ other → is_limit other ≡ false → fault ≢ faults.Limit
no_limit_by fault other is differs limit = true≢false (sym (ap is_limit limit) ∙ (ap is_limit is ∙ differs))

abbrev is_done : {T : Type 0} → Result T Fault → Bool
is_done (Ok t) = true
is_done (Err fault) = false

abbrev error_of : {T : Type 0} → Fault → Result T Fault → Fault
error_of fault (Ok t) = fault
error_of fault (Err other) = other

-- the definitions refuse nothing by a failure
no_refusal : (c : calls.Configuration) (x : calls.Index) (call : calls.Call) (fault : Fault) → is_failure fault ≡ true → calls.call_fault c x call ≡ Some fault → ⊥
no_refusal c x call fault fails is = true≢false (sym fails ∙ refused_by_no_failure c x call fault is)

no_error : {T : Type 0} (t : T) (fault : Fault) → IsErrOf {T = T} (Ok t) fault → ⊥
no_error t fault is = true≢false (ap is_done is)

same_error : {T : Type 0} (fault other : Fault) → IsErrOf {T = T} (Err fault) other → fault ≡ other
same_error fault other is = ap (error_of fault) is

-- what a call that doesn't write is refused by
abbrev pub Own : {T : Type 0} → calls.Configuration → calls.Index → calls.Call → Result T Fault → Type 0
Own c x call r = IfErr r (λ fault. fault ≢ faults.OutOfMemory → fault ≢ faults.Limit → calls.call_fault c x call ≡ Some fault)

pub own_exact : {T : Type 0} (c : calls.Configuration) (x : calls.Index) (call : calls.Call) (r : Result T Fault) → Own c x call r → Exact c x call r
own_exact c x call (Ok t) own = tt
own_exact c x call (Err fault) own = λ memory device limit. own memory limit

-- no limit is why
pub tests_alone : {T : Type 0} (c : calls.Configuration) (x : calls.Index) (call : calls.Call) (r : Result T Fault) → IfErr r (λ fault. fault ≢ faults.OutOfMemory → calls.call_fault c x call ≡ Some fault) → Own c x call r
tests_alone c x call (Ok t) tests = tt
tests_alone c x call (Err fault) tests = λ memory limit. tests memory

pub no_limit : {T : Type 0} (c : calls.Configuration) (x : calls.Index) (call : calls.Call) (r : Result T Fault) (P : Type 0) → IfErr r (λ fault. fault ≢ faults.OutOfMemory → calls.call_fault c x call ≡ Some fault) → IfErr r (λ fault. fault ≡ faults.Limit → P)
no_limit c x call (Ok t) P tests = tt
no_limit c x call (Err fault) P tests = λ is. absurd (no_refusal c x call fault (ap is_failure is) (tests (no_memory_by fault faults.Limit is refl)))

-- the device isn't
own_cause : {T : Type 0} (c : calls.Configuration) (x : calls.Index) (call : calls.Call) (r : Result T Fault) (before now : ℕ) → Own c x call r → now ≡ before → HasCause before now r
own_cause c x call (Ok t) before now own same = record { later = omega (arith, same); cause = λ is. absurd (no_error t faults.Device is) }
own_cause c x call (Err fault) before now own same = record { later = omega (arith, same); cause = λ is. (let device = same_error fault faults.Device is in absurd (no_refusal c x call fault (ap is_failure device) (own (no_memory_by fault faults.Device device refl) (no_limit_by fault faults.Device device refl)))) }

-- whatever is answered
pub told_own : {T : Type 0} (answer : T → Answer) (c : calls.Configuration) (x : calls.Index) (call : calls.Call) (r : Result T Fault) → Own c x call r → Own c x call (outcome_of answer r)
told_own answer c x call (Ok t) own = tt
told_own answer c x call (Err fault) own = own

pub told_limit : {T : Type 0} (answer : T → Answer) (r : Result T Fault) (P : Type 0) → IfErr r (λ fault. fault ≡ faults.Limit → P) → IfErr (outcome_of answer r) (λ fault. fault ≡ faults.Limit → P)
told_limit answer (Ok t) P limit = tt
told_limit answer (Err fault) P limit = limit

-- a record's limit
pub limit_of : (r : Result ⊤ Fault) (P : Type 0) → (IsErrOf r faults.Limit → P) → IfErr r (λ fault. fault ≡ faults.Limit → P)
limit_of (Ok u) P limit = tt
limit_of (Err fault) P limit = λ is. limit (ap Err is)

-- and its device
told_cause : (r : Result ⊤ Fault) (before now : ℕ) → HasCause before now r → HasCause before now (outcome_of (λ (u : ⊤). done) r)
told_cause (Ok u) before now has = record { later = has.later; cause = λ is. absurd (no_error done faults.Device is) }
told_cause (Err fault) before now has = record { later = has.later; cause = λ is. has.cause (ap Err (same_error fault faults.Device is)) }

-- ---- what a call leaves, by its result

change_err : (r : Result ⊤ Fault) (P : Fault → Type 0) → IfErr r P → IfErr (outcome_of (λ (u : ⊤). done) r) P
change_err (Ok u) P h = tt
change_err (Err fault) P h = h

change_ok : (r : Result ⊤ Fault) (P : Type 0) → OnOk r P → OnOk (outcome_of (λ (u : ⊤). done) r) P
change_ok (Ok u) P h = h
change_ok (Err fault) P h = tt

any_ok : {T : Type 0} (r : Result T Fault) (P : Type 0) → P → OnOk r P
any_ok (Ok u) P p = p
any_ok (Err fault) P p = tt

ok_map : {T : Type 0} (r : Result T Fault) (P Q : T → Type 0) → ((t : T) → P t → Q t) → IfOk r P → IfOk r Q
ok_map (Ok t) P Q f p = f t p
ok_map (Err fault) P Q f p = tt

-- a call that only reads answers what the definitions do, or its own refusal, or wants memory
pub read_stands : {T : Type 0} (answer : T → Answer) (r : Result T Fault) (c : calls.Configuration) (x : calls.Index) (call : calls.Call) (P : calls.Index → Type 0) → calls.is_commit call ≡ false → calls.after c x.state call ≡ x.state
    → IfOk r (λ t. (calls.call_fault c x call ≡ None) × (answer t ≡ answer_to c x.state call)) → IfErr r (λ fault. fault ≢ faults.OutOfMemory → calls.call_fault c x call ≡ Some fault) → IfErr r (λ fault. fault ≡ faults.OutOfMemory → calls.call_fault c x call ≡ None) → P x
    → (y : calls.Index) × calls.Leaves c x call (ending (outcome_of answer r)) y × IsTold c x call (outcome_of answer r) × P y
read_stands answer (Ok t) c x call P no_commit same ok err own p = (x, subst (λ s. calls.Leaves c x call (Ok tt) (record { state = s; status = x.status })) same (calls.answered ok.0), record { answered = ok.1; exact = tt }, p)
read_stands answer (Err fault) c x call P no_commit same ok err own p = (x, error_leaves c x call fault no_commit err own, record { answered = tt; exact = λ memory device limit. err memory }, p)

-- a count is answered as a number
pub counted_so : (r : Result ℕ Fault) (c : calls.Configuration) (x : calls.Index) (q : Query) → IfOk r (λ n. (calls.call_fault c x (calls.count_all q) ≡ None) × (n ≡ scan_count c.schema c.analyze (committed x.state) q))
    → IfOk r (λ n. (calls.call_fault c x (calls.count_all q) ≡ None) × (number n ≡ answer_to c x.state (calls.count_all q)))
counted_so r c x q ok = ok_map r _ _ (λ n h. (h.0, ap number h.1)) ok

-- and a search as its hits
pub found_so : {T : Type 0} (shown : T → List (ℤ × Named)) (r : Result T Fault) (c : calls.Configuration) (x : calls.Index) (q : Query) (k : ℕ) → IfOk r (λ t. (calls.call_fault c x (calls.search_best q k) ≡ None) × (shown t ≡ map scored (scan c.schema c.analyze c.similarity (committed x.state) q k)))
    → IfOk r (λ t. (calls.call_fault c x (calls.search_best q k) ≡ None) × (hits (shown t) ≡ answer_to c x.state (calls.search_best q k)))
found_so shown r c x q k ok = ok_map r _ _ (λ t h. (h.0, ap hits h.1)) ok

-- ---- the file

module _ {D A : Type 0} {d : devices.Ghosts D} {a : analyzers.Ghosts A} (analyze : A → Analyzer)
    (only_now : (device : D) (image : List ℕ) → IsTrue (d.honest device) → d.left_since device (d.moment device) image → IsImage (d.content device) (d.unsynced device) image) where
  -- nothing was done to the file
  still : (old new : Index D A d a) (c : calls.Configuration) (x : calls.Index) (other : List (List Document)) → IndexStands analyze old c x → KeepsFile old new → IsTrue (d.honest (device_of old)) → IndexRests old
      → CrashLeavesEither analyze old new x.state.groups other
  still old new c x other s (same, gate, members) h rests =
      let device = device_of old in
      let says = rests_say (schema_of old) (settings_of old) (analyze (analyzer_of old)) (members_of old) x.state.groups (d.content device) (d.unsynced device) (gate_of old) rests (stands_groups analyze old.index_state c x s) in
      record {
        first = rests.bodies;
        second = rests.bodies;
        says_one = says;
        says_other = inl says;
        images = subst (λ (q : D). LeavesOnly d.moment d.left_since device q (IsOneOf rests.bodies rests.bodies)) (sym same)
            (resting d.moment d.left_since d.content d.unsynced device (gate_of old) rests.bodies rests.bodies rests.at_rest rests.synced (λ image left. only_now device image h left));
      }

  -- and it rests again
  pub rests_still : (old new : Index D A d a) → KeepsMaking old new → KeepsFile old new → IndexRests old → IndexRests new
  rests_still old new made (same, gate, members) rests = record {
    bodies = rests.bodies;
    at_rest = subst (λ (q : D). IsAtRest (d.content q) (gate_of new) rests.bodies) (sym same) (subst (λ n. IsAtRest (d.content (device_of old)) n rests.bodies) (sym gate) rests.at_rest);
    leave = leave_same (schema_of old) (schema_of new) (settings_of old) (settings_of new) rests.bodies (members_of old) (members_of new) made.schema made.settings members rests.leave;
    synced = subst (λ (q : D). d.unsynced q ≡ settled (length (d.content q))) (sym same) rests.synced;
  }

  -- what every image has it has still
  lists_still : (old new : Index D A d a) → KeepsFile old new → IsTrue (d.honest (device_of old)) → ImagesHaveLists analyze old
      → LeavesOnly d.moment d.left_since (device_of old) (device_of new) (HasLists (schema_of old) (settings_of old) (analyze (analyzer_of old)))
  lists_still old new file h have =
      let device = device_of old in
      let P : List ℕ → Type 0 = HasLists (schema_of old) (settings_of old) (analyze (analyzer_of old)) in
      subst (λ (q : D). LeavesOnly d.moment d.left_since device q P) (sym file.0) (started d.moment d.left_since device P (λ image left. have image (only_now device image h left)))

  -- each image of what rests gives the groups
  images_leave : (old : Index D A d a) (c : calls.Configuration) (x : calls.Index) → IndexStands analyze old c x → IndexRests old → ImagesHaveLists analyze old → ImagesLeave analyze old x.state.groups
  images_leave old c x s rests have image is =
      let device = device_of old in
      let schema = schema_of old in
      let settings = settings_of old in
      let cut = analyze (analyzer_of old) in
      let says = rests_say schema settings cut (members_of old) x.state.groups (d.content device) (d.unsynced device) (gate_of old) rests (stands_groups analyze old.index_state c x s) in
      let file : IsFile rests.bodies image = rest_images rests.bodies (d.content device) image (gate_of old) rests.at_rest (subst (λ (u : Unsynced). IsImage (d.content device) u image) rests.synced is) in
      given_last schema settings cut x.state.groups image (rests.bodies, file, says) (have image is)

  -- a call that doesn't touch the file
  pub kept_called : (old new : Index D A d a) (call : calls.Call) (outcome : Result Answer Fault)
      → ((c : calls.Configuration) (x : calls.Index) → IndexStands analyze old c x → (y : calls.Index) × calls.Leaves c x call (ending outcome) y × IsTold c x call outcome × IndexStands analyze new c y)
      → ((c : calls.Configuration) (x : calls.Index) → IndexStands analyze old c x → Own c x call outcome)
      → ((c : calls.Configuration) (x : calls.Index) → IndexStands analyze old c x → IfErr outcome (λ fault. fault ≡ faults.Limit → Passes analyze c x old call))
      → KeepsMaking old new → KeepsFile old new → IsCalled analyze old new call outcome
  kept_called old new call outcome stands own limit made file = record {
    stands = stands;
    cause = λ c x s. own_cause c x call outcome _ _ (own c x s) (ap d.failed file.0);
    limit = limit;
    made = made;
    honest = ap d.honest file.0;
    kept = any_err outcome _ (λ fault other. file);
    rests = λ c x s h rests. any_ok outcome _ (rests_still old new made file rests);
    any_moment = λ c x s h rests. still old new c x (groups_after c x call) s file h rests;
    lists = λ c x s h rests have. lists_still old new file h have;
  }

  -- a change that doesn't touch the file
  pub change_called : (old new : Index D A d a) (call : calls.Call) (r : Result ⊤ Fault) → ((c : calls.Configuration) (s : State) → answer_to c s call ≡ done)
      → ((c : calls.Configuration) (x : calls.Index) → IndexStands analyze old c x → (y : calls.Index) × calls.Leaves c x call r y × IndexStands analyze new c y)
      → ((c : calls.Configuration) (x : calls.Index) → IndexStands analyze old c x → Own c x call r)
      → ((c : calls.Configuration) (x : calls.Index) → IndexStands analyze old c x → IfErr r (λ fault. fault ≡ faults.Limit → Passes analyze c x old call))
      → KeepsMaking old new → KeepsFile old new → IsCalled analyze old new call (outcome_of (λ (u : ⊤). done) r)
  change_called old new call r is left own limit made file =
      kept_called old new call (outcome_of (λ (u : ⊤). done) r) (λ c x s. change_stands r c x call (IndexStands analyze new c) (is c x.state) (own_exact c x call r (own c x s)) (left c x s))
      (λ c x s. told_own (λ (u : ⊤). done) c x call r (own c x s)) (λ c x s. told_limit (λ (u : ⊤). done) r _ (limit c x s)) made file

  -- a call that writes a record
  pub writes_called : (old new : Index D A d a) (call : calls.Call) (r : Result ⊤ Fault) → ((c : calls.Configuration) (s : State) → answer_to c s call ≡ done)
      → ((c : calls.Configuration) (x : calls.Index) → IndexStands analyze old c x → Writes analyze c x call old new r)
      → HasCause (d.failed (device_of old)) (d.failed (device_of new)) r
      → ((c : calls.Configuration) (x : calls.Index) → IndexStands analyze old c x → IsErrOf r faults.Limit → Passes analyze c x old call)
      → KeepsMaking old new → d.honest (device_of new) ≡ d.honest (device_of old) → IfErr r (λ fault. fault ≢ faults.Device → KeepsFile old new)
      → IsCalled analyze old new call (outcome_of (λ (u : ⊤). done) r)
  writes_called old new call r is writes cause limit made honest kept = record {
    stands = λ c x s. change_stands r c x call (IndexStands analyze new c) (is c x.state) (writes c x s).exact (writes c x s).left;
    cause = λ c x s. told_cause r _ _ cause;
    limit = λ c x s. told_limit (λ (u : ⊤). done) r _ (limit_of r _ (limit c x s));
    made = made;
    honest = honest;
    kept = change_err r _ kept;
    rests = λ c x s h rest. change_ok r _ ((writes c x s).rests h rest);
    any_moment = λ c x s h rest. (
        let w = writes c x s in
        ⊎_elim
        (λ (taken : calls.call_fault c x call ≡ None). subst (λ o. CrashLeavesEither analyze old new x.state.groups (unless_refused o (calls.after c x.state call).groups x.state.groups)) (sym taken) (w.any_moment h rest))
        (λ refused. still old new c x (groups_after c x call) s (if_err_at r refused.0 (λ fault. fault ≢ faults.Device → KeepsFile old new) refused.1 kept refused.2) h rest)
        (taken_or_kept c x w.left.0 call r w.left.1));
    lists = λ c x s h rest have. (
        let after = (calls.after c x.state call).groups in
        let schema = schema_of old in
        let settings = settings_of old in
        let cut = analyze (analyzer_of old) in
        weaker d.moment d.left_since (device_of old) (device_of new) (LeavesOneOf schema settings cut x.state.groups after) (HasLists schema settings cut) ((writes c x s).lists h rest (images_leave old c x s rest have))
        (λ image is. ⊎_elim (λ one. (one.0, one.1)) (λ other. (other.0, other.1)) is));
  }
