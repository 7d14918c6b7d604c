-- How calls end.
use Rattle.std.proofs.Common.{Bool, Err, IfErr, IfOk, None, Ok, Result, Some, ap, false, is_none, refl, subst, sym, true, true≢false, ⊎_elim, ◌∙◌, ◌≡◌, ◌≢◌, ◌⊎◌, ◌||◌}
use Rattle.std.specs.Bool.{⊤}
use Rattle.std.specs.Option.{option_or}
use Rattle.std.specs.Result.{IsErrAnd}
use Rattle.definitions.specs.Calls as calls
use Rattle.definitions.specs.declared.fault.Fault.{Fault}
use Rattle.definitions.specs.declared.fault.Fault.TheVariants as faults
use Rattle.index_file.proofs.ErrorsKept.{err_has}

-- an answer that is this error
pub err_same : (r : Result ⊤ Fault) (fault : Fault) → IsErrAnd r (λ e. e ≡ fault) → Err fault ≡ r
err_same (Ok u) fault h = absurd h
err_same (Err e) fault h = ap Err (sym h)

-- where changes are taken the index is ready
pub ready_of : (s : calls.Status) → calls.status_fault s false ≡ None → s ≡ calls.ready
ready_of calls.ready e = refl
ready_of calls.writer_closed e = absurd (true≢false (sym (ap is_none e)))
ready_of calls.closed e = absurd (true≢false (sym (ap is_none e)))

-- what a status refuses is refused
pub status_refuses : (c : calls.Configuration) (x : calls.Index) (call : calls.Call) (fault : Fault) → calls.status_fault x.status (calls.only_reads call) ≡ Some fault → calls.call_fault c x call ≡ Some fault
status_refuses c x call fault h = ap (λ o. option_or o (calls.own_fault c x.state call)) h

-- what no status refuses is refused by its own tests
pub own_refuses : (c : calls.Configuration) (x : calls.Index) (call : calls.Call) → calls.status_fault x.status (calls.only_reads call) ≡ None → calls.call_fault c x call ≡ calls.own_fault c x.state call
own_refuses c x call h = ap (λ o. option_or o (calls.own_fault c x.state call)) h

-- running out of memory and limits are what may be met half way
pub want_of : (fault : Fault) → (fault ≡ faults.OutOfMemory) ⊎ (fault ≡ faults.Limit) → calls.IsWant fault
want_of fault want = ⊎_elim (λ e. subst calls.IsWant (sym e) calls.no_memory) (λ e. subst calls.IsWant (sym e) calls.limit_met) want

-- what a call leaves that ran out of memory or met a limit half way
pub half_way : (c : calls.Configuration) (x : calls.Index) (call : calls.Call) (fault : Fault) → (fault ≡ faults.OutOfMemory) ⊎ (fault ≡ faults.Limit) → calls.call_fault c x call ≡ None → (calls.is_add call || calls.is_commit call) ≡ true → calls.Leaves c x call (Err fault) (record { state = x.state; status = calls.writer_closed })
half_way c x call fault want taken writes = calls.half_written fault (want_of fault want) taken writes

-- a closed writer isn't ready, nor is a closed index
abbrev is_stopped : calls.Status → Bool
is_stopped calls.ready = false
is_stopped calls.writer_closed = true
is_stopped calls.closed = true

pub writer_is_not_ready : calls.writer_closed ≢ calls.ready
writer_is_not_ready e = true≢false (ap is_stopped e)

pub closed_is_not_ready : calls.closed ≢ calls.ready
closed_is_not_ready e = true≢false (ap is_stopped e)

-- a commit is refused by its status alone
pub commit_taken : (c : calls.Configuration) (x : calls.Index) → calls.status_fault x.status false ≡ None → calls.call_fault c x calls.commit_pending ≡ None
commit_taken c x none = own_refuses c x calls.commit_pending none

-- running out of memory is no limit
pub memory_is_no_limit : (fault : Fault) → fault ≡ faults.OutOfMemory → fault ≡ faults.Limit → ⊥
memory_is_no_limit fault memory limit = let e : faults.OutOfMemory ≡ faults.Limit = sym memory ∙ limit in cc

-- nor is a closed index
pub closed_is_no_memory : faults.Closed ≢ faults.OutOfMemory
closed_is_no_memory e = cc

-- what holds of no limit
pub err_no_limit : {T : Type 0} (r : Result T Fault) (fault : Fault) (P : Type 0) → IsErrAnd r (λ e. e ≡ fault) → (fault ≡ faults.Limit → ⊥) → IfErr r (λ e. e ≡ faults.Limit → P)
err_no_limit r fault P is other = err_has r fault (λ e. e ≡ faults.Limit → P) is (λ limit. absurd (other limit))

-- what holds of each value that is returned
pub if_ok : {T E : Type 0} (r : Result T E) (P : T → Type 0) → ((t : T) → r ≡ Ok t → P t) → IfOk r P
if_ok (Ok t) P h = h t refl
if_ok (Err e) P h = tt

-- and of each error
pub if_err : {T E : Type 0} (r : Result T E) (P : E → Type 0) → ((e : E) → r ≡ Err e → P e) → IfErr r P
if_err (Ok t) P h = tt
if_err (Err e) P h = h e refl
