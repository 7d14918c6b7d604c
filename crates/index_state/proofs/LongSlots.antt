-- Documents whose slot is too long beside a block.
use Rattle.std.proofs.Common.{ap, refl, sym, true, ◌≡◌, ◌⊎◌, Err, None, ⊎_elim, subst, ◌||◌}
use Rattle.std.specs.Prelude.{false}
use Rattle.definitions.specs.Calls as calls
use Rattle.definitions.specs.declared.fault.Fault.{Fault}
use Rattle.definitions.specs.declared.fault.Fault.TheVariants as faults
use Rattle.index_state.proofs.Outcomes.{memory_is_no_limit}

-- what an add leaves that finds no memory for the slot, or finds it too long
pub long_slot : (c : calls.Configuration) (x : calls.Index) (call : calls.Call) (fault : Fault) {P : Type 0} → (fault ≡ faults.OutOfMemory) ⊎ ((fault ≡ faults.Limit) × P) → calls.status_fault x.status (calls.only_reads call) ≡ None → calls.call_fault c x call ≡ None → calls.is_add call ≡ true → calls.Leaves c x call (Err fault) x
long_slot c x call fault err none taken adds = ⊎_elim
    (λ (memory : fault ≡ faults.OutOfMemory). subst (λ f. calls.Leaves c x call (Err f) x) (sym memory) (calls.memory_refused none (adds_only call adds)))
    (λ limit. subst (λ f. calls.Leaves c x call (Err f) x) (sym limit.0) (calls.limit_refused taken (ap (λ b. b || calls.is_merge call) adds)))
    err
  where
    adds_only : (k : calls.Call) → calls.is_add k ≡ true → calls.is_commit k ≡ false
    adds_only (calls.add_json t) h = refl
    adds_only (calls.add_value d) h = refl
    adds_only (calls.add_document doc) h = refl
    adds_only (calls.delete_term t) h = cc
    adds_only calls.commit_pending h = cc
    adds_only (calls.merge_range from to) h = refl
    adds_only (calls.search_best q k) h = refl
    adds_only (calls.count_all q) h = refl

-- an add that finds a slot too long has one
pub slot_refused : (fault : Fault) {P : Type 0} → (fault ≡ faults.OutOfMemory) ⊎ ((fault ≡ faults.Limit) × P) → fault ≡ faults.Limit → P
slot_refused fault err is = ⊎_elim (λ (memory : fault ≡ faults.OutOfMemory). absurd (memory_is_no_limit fault memory is)) (λ limit. limit.1) err
