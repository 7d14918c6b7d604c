-- What is left where a device failed, and of an index that is closed.
use Rattle.std.proofs.Common.{Bool, Err, IfErr, None, Ok, Result, Some, ap, ap₂, false, subst, sym, true≢false, ◌∙◌, ◌≡◌, ◌||◌, List}
use Rattle.std.specs.Bool.{⊤}
use Rattle.std.specs.Prelude.{IsErrOf}
use Rattle.common.specs.declared.analyzer.Analyzer as analyzers
use Rattle.common.specs.declared.device.Device as devices
use Rattle.definitions.proofs.CallAnswers.{left_closed, left_device}
use Rattle.definitions.proofs.OwnFaults.{is_failure, refused_by_no_failure}
use Rattle.definitions.proofs.Steps.{answered_call}
use Rattle.definitions.specs.Analyzers.{Analyzer}
use Rattle.definitions.specs.Calls as calls
use Rattle.definitions.specs.Replies.{error_reply}
use Rattle.definitions.specs.Requests as requests
use Rattle.definitions.specs.Step as steps
use Rattle.definitions.specs.Values.{Document}
use Rattle.definitions.specs.declared.fault.Fault.{Fault}
use Rattle.definitions.specs.declared.fault.Fault.TheVariants as faults
use Rattle.engine.specs.Indexes.{CrashLeavesEither, IndexStands}
use Rattle.engine.specs.Writes.{Writes}
use Rattle.engine.specs.declared.index.Index.{Index}
use Rattle.index.specs.Replying.{IsFailed, MayClose}
use Rattle.index.specs.AskedRequests.{index_request_of}
use Rattle.index.specs.declared.requests.IndexRequest.{IndexRequest}
use Rattle.index.specs.declared.requests.IndexRequest.TheVariants.{Add, Commit, Count, Delete, Merge, Search}
use Rattle.definitions.specs.Settings.{Settings}
use Rattle.index_file.proofs.ErrorsKept.{error_or_memory as error_in}
use Rattle.index_state.proofs.Outcomes.{status_refuses}
use Rattle.serde_json.specs.Data as json
use Rattle.serde_json.specs.View.{view}

-- ---- faults

pub memory_no_device : {T : Type 0} (r : Result T Fault) → IfErr r (λ e. e ≡ faults.OutOfMemory) → ¬ IsErrOf r faults.Device
memory_no_device (Ok t) is device = let e = device in cc
memory_no_device (Err e) is device = let same : faults.Device ≡ faults.OutOfMemory = sym (ap error_in device) ∙ is in cc

-- a closed index meets no limit
pub closed_no_limit : (c : calls.Configuration) (x : calls.Index) (call : calls.Call) (change : Result ⊤ Fault) (P : calls.Index → Type 0) → (y : calls.Index) × calls.Leaves c x call change y × P y → x.status ≡ calls.closed → ¬ IsErrOf change faults.Limit
closed_no_limit c x call change P (y, leaves, p) closed limit =
    let same : faults.Limit ≡ faults.Closed = sym (ap error_in limit) ∙ ap error_in (left_closed c x call leaves closed).0 in cc

-- only a call that isn't refused meets a failed device
taken_by_device : (c : calls.Configuration) (x y : calls.Index) (call : calls.Call) (r : Result ⊤ Fault) → calls.Leaves c x call r y → r ≡ Err faults.Device → calls.call_fault c x call ≡ None
taken_by_device c x y call r (calls.Leaves.refused fault is) device = absurd (true≢false (sym (ap is_failure (ap error_in device)) ∙ refused_by_no_failure c x call fault is))
taken_by_device c x y call r (calls.Leaves.answered is) device = is
taken_by_device c x y call r (calls.Leaves.memory_refused open_ writes) device = absurd (let same : faults.OutOfMemory ≡ faults.Device = ap error_in device in cc)
taken_by_device c x y call r (calls.Leaves.limit_refused is writes) device = is
taken_by_device c x y call r (calls.Leaves.half_written fault want is writes) device = is
taken_by_device c x y call r (calls.Leaves.device_failed is writes) device = is
taken_by_device c x y call r (calls.Leaves.slot_damaged is reads) device = is

-- an add that answers `Device` there is none
pub no_add_failed : (c : calls.Configuration) (x : calls.Index) (call : calls.Call) (change : Result ⊤ Fault) (P : calls.Index → Type 0) → (calls.is_commit call ≡ false) → (calls.is_merge call ≡ false) → (y : calls.Index) × calls.Leaves c x call change y × P y → ¬ IsErrOf change faults.Device
no_add_failed c x call change P commit merge (y, leaves, p) device = true≢false (sym (left_device c x call leaves device).0 ∙ either (calls.is_commit call) (calls.is_merge call) commit merge)
  where
    either : (a b : Bool) → a ≡ false → b ≡ false → (a || b) ≡ false
    either a b first second = ap₂ (λ p q. p || q) first second

-- ---- an index

module _ {D A : Type 0} {d : devices.Ghosts D} {an : analyzers.Ghosts A} (analyze : A → Analyzer) (old new : Index D A d an) (c : calls.Configuration) (x : calls.Index) where
  -- a commit or a merge met a failed device
  pub writes_failed : (r : requests.Request) (call : calls.Call) (change : Result ⊤ Fault) → steps.call_in c.schema r ≡ Ok call → Writes analyze c x call old new change → IsErrOf change faults.Device → IsFailed analyze old new c x r
  writes_failed r call change read writes device =
      let leaves = writes.left.1 in
      let taken = taken_by_device c x writes.left.0 call change leaves device in
      record {
        stands = subst (λ (y : calls.Index). IndexStands analyze new c y) (left_device c x call leaves device).1 writes.left.2;
        files = λ h rests.
            subst (λ (groups : List (List Document)). CrashLeavesEither analyze old new x.state.groups groups)
            (sym (ap (λ (p : json.Data × calls.Index). p.1.state.groups) (answered_call c x r call read taken)))
            (writes.any_moment h rests);
      }

-- ---- a closed index

-- it refuses every request
pub closed_step : (c : calls.Configuration) (x : calls.Index) (r : requests.Request) → x.status ≡ calls.closed → steps.index_step c x r ≡ (error_reply faults.Closed, x)
closed_step c x r closed = ap (λ (status : calls.Status). steps.refused_or (calls.status_fault status (steps.only_asks r)) x (steps.call_step c x (steps.call_in c.schema r))) closed

refuses_all : (c : calls.Configuration) (x : calls.Index) (call : calls.Call) → x.status ≡ calls.closed → ¬ (calls.call_fault c x call ≡ None)
refuses_all c x call closed taken =
    let refused = status_refuses c x call faults.Closed (ap (λ status. calls.status_fault status (calls.only_reads call)) closed) in
    let same : Some faults.Closed ≡ None = sym refused ∙ taken in cc

-- and no request closes its writer
pub closed_stays : (c : calls.Configuration) (settings : Settings) (x : calls.Index) (r : IndexRequest) → x.status ≡ calls.closed → ¬ MayClose c settings x (Some (index_request_of r))
closed_stays c settings x (Add doc) closed may = refuses_all c x (calls.add_value (view doc.now)) closed may.0
closed_stays c settings x (Delete term) closed may = may
closed_stays c settings x (Merge from to) closed may = may
closed_stays c settings x Commit closed may = refuses_all c x calls.commit_pending closed may
closed_stays c settings x (Search query k) closed may = may
closed_stays c settings x (Count query) closed may = may
