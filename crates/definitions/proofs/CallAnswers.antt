-- What an answer says of what its call left.
use Rattle.std.proofs.Common.{Err, None, Ok, Result, Some, ap, inl, inr, refl, sym, true, true≢false, false, if◌then◌else◌, ◌||◌, ◌∙◌, ◌≡◌, ◌≢◌, ◌⊎◌}
use Rattle.std.specs.Prelude.{⊤}
use Rattle.definitions.specs.Calls.{Call, Configuration, Index, IsWant, Leaves, Status, add_document, add_json, add_value, after, call_fault, closed, commit_pending, count_all, delete_term, is_add, is_commit, is_merge, is_search, merge_range, only_reads, own_fault, ready, search_best, status_fault, writer_closed}
use Rattle.std.specs.Option.{option_or}
use Rattle.definitions.proofs.OwnFaults.{is_failure, refused_by_closed_writer, refused_by_no_failure}
use Rattle.definitions.specs.declared.fault.Fault.{Fault}
use Rattle.definitions.specs.declared.fault.Fault.TheVariants as faults

-- an answer
abbrev pub Answer : Type 0
Answer = Result ⊤ Fault

abbrev pub done : Answer
done = Ok tt

abbrev pub failed : Fault → Answer
failed fault = Err fault

-- ---- answers differ

same_fault : (f g : Fault) → failed f ≡ failed g → f ≡ g
same_fault f g e = cc

no_done : (f : Fault) → failed f ≡ done → ⊥
no_done f e = cc

done_no : (f : Fault) → done ≡ failed f → ⊥
done_no f e = cc

-- a want is want of memory or a limit
want_is : (fault : Fault) → IsWant fault → (fault ≡ faults.OutOfMemory) ⊎ (fault ≡ faults.Limit)
want_is _ IsWant.no_memory = inl refl
want_is _ IsWant.limit_met = inr refl

-- ---- what each answer says

module _ (c : Configuration) (x : Index) (call : Call) where
  -- no failure is a call's own refusal
  never : (fault : Fault) → is_failure fault ≡ true → call_fault c x call ≡ Some fault → ⊥
  never fault fails is = true≢false (sym fails ∙ refused_by_no_failure c x call fault is)

  pub left_answered : {r : Answer} {y : Index} → Leaves c x call r y → r ≡ done → (call_fault c x call ≡ None) × (y ≡ record { state = after c x.state call; status = x.status })
  left_answered (Leaves.refused fault is) e = absurd (no_done fault e)
  left_answered (Leaves.answered is) e = (is, refl)
  left_answered (Leaves.memory_refused open_ other) e = absurd (no_done _ e)
  left_answered (Leaves.limit_refused is writes) e = absurd (no_done _ e)
  left_answered (Leaves.half_written fault want is writes) e = absurd (no_done fault e)
  left_answered (Leaves.device_failed is writes) e = absurd (no_done _ e)
  left_answered (Leaves.slot_damaged is reads) e = absurd (no_done _ e)

  pub left_refused : {r : Answer} {y : Index} → (fault : Fault) → Leaves c x call r y → r ≡ failed fault → fault ≢ faults.OutOfMemory → fault ≢ faults.Limit → fault ≢ faults.Device → fault ≢ faults.Damaged None → (call_fault c x call ≡ Some fault) × (y ≡ x)
  left_refused fault (Leaves.refused own is) e memory limit device damaged = (is ∙ ap Some (same_fault own fault e), refl)
  left_refused fault (Leaves.answered is) e memory limit device damaged = absurd (done_no fault e)
  left_refused fault (Leaves.memory_refused open_ other) e memory limit device damaged = absurd (memory (sym (same_fault _ fault e)))
  left_refused fault (Leaves.limit_refused is writes) e memory limit device damaged = absurd (limit (sym (same_fault _ fault e)))
  left_refused fault (Leaves.half_written own want is writes) e memory limit device damaged = absurd (elim (want_is own want) [ inl w ↦ memory (sym (same_fault own fault e) ∙ w) | inr w ↦ limit (sym (same_fault own fault e) ∙ w) ])
  left_refused fault (Leaves.device_failed is writes) e memory limit device damaged = absurd (device (sym (same_fault _ fault e)))
  left_refused fault (Leaves.slot_damaged is reads) e memory limit device damaged = absurd (damaged (sym (same_fault _ fault e)))

  pub left_device : {r : Answer} {y : Index} → Leaves c x call r y → r ≡ failed faults.Device → ((is_commit call || is_merge call) ≡ true) × (y ≡ record { state = x.state; status = closed })
  left_device (Leaves.refused own is) e = absurd (never faults.Device refl (is ∙ ap Some (same_fault own faults.Device e)))
  left_device (Leaves.answered is) e = absurd (done_no _ e)
  left_device (Leaves.memory_refused open_ adds) e = let f = same_fault faults.OutOfMemory faults.Device e in absurd (cc)
  left_device (Leaves.limit_refused is writes) e = let f = same_fault faults.Limit faults.Device e in absurd (cc)
  left_device (Leaves.half_written own want is writes) e = let f = same_fault own faults.Device e in absurd (elim (want_is own want) [ inl w ↦ cc | inr w ↦ cc ])
  left_device (Leaves.device_failed is writes) e = (writes, refl)
  left_device (Leaves.slot_damaged is reads) e = let f = same_fault (faults.Damaged None) faults.Device e in absurd (cc)

  pub left_damaged : {r : Answer} {y : Index} → Leaves c x call r y → r ≡ failed (faults.Damaged None) → ((is_search call || is_merge call) ≡ true) × (y ≡ x)
  left_damaged (Leaves.refused own is) e = absurd (never (faults.Damaged None) refl (is ∙ ap Some (same_fault own (faults.Damaged None) e)))
  left_damaged (Leaves.answered is) e = absurd (done_no _ e)
  left_damaged (Leaves.memory_refused open_ adds) e = let f = same_fault faults.OutOfMemory (faults.Damaged None) e in absurd (cc)
  left_damaged (Leaves.limit_refused is writes) e = let f = same_fault faults.Limit (faults.Damaged None) e in absurd (cc)
  left_damaged (Leaves.half_written own want is writes) e = let f = same_fault own (faults.Damaged None) e in absurd (elim (want_is own want) [ inl w ↦ cc | inr w ↦ cc ])
  left_damaged (Leaves.device_failed is writes) e = let f = same_fault faults.Device (faults.Damaged None) e in absurd (cc)
  left_damaged (Leaves.slot_damaged is reads) e = (reads, refl)

  pub left_limit : {r : Answer} {y : Index} → Leaves c x call r y → r ≡ failed faults.Limit → (((is_add call || is_merge call) ≡ true) × (y ≡ x)) ⊎ (((is_add call || is_commit call) ≡ true) × (y ≡ record { state = x.state; status = writer_closed }))
  left_limit (Leaves.refused own is) e = absurd (never faults.Limit refl (is ∙ ap Some (same_fault own faults.Limit e)))
  left_limit (Leaves.answered is) e = absurd (done_no _ e)
  left_limit (Leaves.memory_refused open_ adds) e = let f = same_fault faults.OutOfMemory faults.Limit e in absurd (cc)
  left_limit (Leaves.limit_refused is writes) e = inl (writes, refl)
  left_limit (Leaves.half_written own want is writes) e = inr (writes, refl)
  left_limit (Leaves.device_failed is writes) e = let f = same_fault faults.Device faults.Limit e in absurd (cc)
  left_limit (Leaves.slot_damaged is reads) e = let f = same_fault (faults.Damaged None) faults.Limit e in absurd (cc)

  pub left_without_room : {r : Answer} {y : Index} → Leaves c x call r y → r ≡ failed faults.OutOfMemory → ((status_fault x.status (only_reads call) ≡ None) × (is_commit call ≡ false) × (y ≡ x)) ⊎ ((call_fault c x call ≡ None) × ((is_add call || is_commit call) ≡ true) × (y ≡ record { state = x.state; status = writer_closed }))
  left_without_room (Leaves.refused own is) e = absurd (never faults.OutOfMemory refl (is ∙ ap Some (same_fault own faults.OutOfMemory e)))
  left_without_room (Leaves.answered is) e = absurd (done_no _ e)
  left_without_room (Leaves.memory_refused open_ other) e = inl (open_, other, refl)
  left_without_room (Leaves.limit_refused is writes) e = let f = same_fault faults.Limit faults.OutOfMemory e in absurd (cc)
  left_without_room (Leaves.half_written own want is writes) e = inr (is, writes, refl)
  left_without_room (Leaves.device_failed is writes) e = let f = same_fault faults.Device faults.OutOfMemory e in absurd (cc)
  left_without_room (Leaves.slot_damaged is reads) e = let f = same_fault (faults.Damaged None) faults.OutOfMemory e in absurd (cc)

  pub left_writer_closed : {r : Answer} {y : Index} → Leaves c x call r y → r ≡ failed faults.WriterClosed → (x.status ≡ writer_closed) × (only_reads call ≡ false) × (y ≡ x)
  left_writer_closed (Leaves.refused own is) e = let by = refused_by_closed_writer c x call (is ∙ ap Some (same_fault own faults.WriterClosed e)) in (by.0, by.1, refl)
  left_writer_closed (Leaves.answered is) e = absurd (done_no _ e)
  left_writer_closed (Leaves.memory_refused open_ other) e = let f = same_fault faults.OutOfMemory faults.WriterClosed e in absurd (cc)
  left_writer_closed (Leaves.limit_refused is writes) e = let f = same_fault faults.Limit faults.WriterClosed e in absurd (cc)
  left_writer_closed (Leaves.half_written own want is writes) e = let f = same_fault own faults.WriterClosed e in absurd (elim (want_is own want) [ inl w ↦ cc | inr w ↦ cc ])
  left_writer_closed (Leaves.device_failed is writes) e = let f = same_fault faults.Device faults.WriterClosed e in absurd (cc)
  left_writer_closed (Leaves.slot_damaged is reads) e = let f = same_fault (faults.Damaged None) faults.WriterClosed e in absurd (cc)

  -- a closed writer refuses what writes
  writes_refused : x.status ≡ writer_closed → only_reads call ≡ false → (status_fault x.status (only_reads call) ≡ Some faults.WriterClosed) × (call_fault c x call ≡ Some faults.WriterClosed)
  writes_refused stands writes = (ap (λ s. status_fault s (only_reads call)) stands ∙ ap (λ reads. if reads then None else Some faults.WriterClosed) writes, ap (λ s. option_or (status_fault s (only_reads call)) (own_fault c x.state call)) stands ∙ ap (λ reads. option_or (if reads then None else Some faults.WriterClosed) (own_fault c x.state call)) writes)

  pub left_by_closed_writer : {r : Answer} {y : Index} → Leaves c x call r y → x.status ≡ writer_closed → only_reads call ≡ false → (r ≡ failed faults.WriterClosed) × (y ≡ x)
  left_by_closed_writer (Leaves.refused own is) stands writes = let f = (writes_refused stands writes).1 in (cc, refl)
  left_by_closed_writer (Leaves.answered is) stands writes = let f = (writes_refused stands writes).1 in absurd (cc)
  left_by_closed_writer (Leaves.memory_refused open_ other) stands writes = let f = (writes_refused stands writes).0 in absurd (cc)
  left_by_closed_writer (Leaves.limit_refused is adds) stands writes = let f = (writes_refused stands writes).1 in absurd (cc)
  left_by_closed_writer (Leaves.half_written own want is adds) stands writes = let f = (writes_refused stands writes).1 in absurd (cc)
  left_by_closed_writer (Leaves.device_failed is commits) stands writes = let f = (writes_refused stands writes).1 in absurd (cc)
  left_by_closed_writer (Leaves.slot_damaged is reads) stands writes = let f = (writes_refused stands writes).1 in absurd (cc)

  pub left_closing_writer : {r : Answer} {y : Index} → Leaves c x call r y → y.status ≡ writer_closed → (x.status ≡ writer_closed) ⊎ (((is_add call || is_commit call) ≡ true) × ((r ≡ failed faults.OutOfMemory) ⊎ (r ≡ failed faults.Limit)))
  left_closing_writer (Leaves.refused own is) e = inl e
  left_closing_writer (Leaves.answered is) e = inl e
  left_closing_writer (Leaves.memory_refused open_ other) e = inl e
  left_closing_writer (Leaves.limit_refused is writes) e = inl e
  left_closing_writer (Leaves.half_written own want is writes) e = inr (writes, elim (want_is own want) [ inl w ↦ inl (ap failed w) | inr w ↦ inr (ap failed w) ])
  left_closing_writer (Leaves.device_failed is writes) e = absurd (cc)
  left_closing_writer (Leaves.slot_damaged is reads) e = inl e

  pub left_state : {r : Answer} {y : Index} → (fault : Fault) → Leaves c x call r y → r ≡ failed fault → y.state ≡ x.state
  left_state fault (Leaves.refused own is) e = refl
  left_state fault (Leaves.answered is) e = absurd (done_no fault e)
  left_state fault (Leaves.memory_refused open_ adds) e = refl
  left_state fault (Leaves.limit_refused is writes) e = refl
  left_state fault (Leaves.half_written own want is writes) e = refl
  left_state fault (Leaves.device_failed is writes) e = refl
  left_state fault (Leaves.slot_damaged is reads) e = refl

-- ---- a commit that finds no memory

-- no status refuses a call for want of memory
status_has_memory : (c : Configuration) (s : Index) (status : Status) → call_fault c (record { state = s.state; status = status }) commit_pending ≢ Some faults.OutOfMemory
status_has_memory c s ready e = cc
status_has_memory c s writer_closed e = cc
status_has_memory c s closed e = cc

pub left_without_memory : (c : Configuration) (x : Index) {r : Answer} {y : Index} → Leaves c x commit_pending r y → r ≡ failed faults.OutOfMemory → y ≡ record { state = x.state; status = writer_closed }
left_without_memory c x (Leaves.refused own is) e = absurd (status_has_memory c x x.status (is ∙ ap Some (same_fault own _ e)))
left_without_memory c x (Leaves.answered is) e = absurd (done_no _ e)
left_without_memory c x (Leaves.memory_refused open_ adds) e = absurd (cc)
left_without_memory c x (Leaves.limit_refused is writes) e = absurd (cc)
left_without_memory c x (Leaves.half_written own want is writes) e = refl
left_without_memory c x (Leaves.device_failed is writes) e = let f = same_fault faults.Device faults.OutOfMemory e in absurd (cc)
left_without_memory c x (Leaves.slot_damaged is reads) e = absurd (cc)

-- ---- calls that only read, and a closed index

-- what only reads leaves the state
read_after : (c : Configuration) (x : Index) (call : Call) → only_reads call ≡ true → after c x.state call ≡ x.state
read_after c x (search_best q k) e = refl
read_after c x (count_all q) e = refl
read_after c x (add_json s) e = cc
read_after c x (add_value d) e = cc
read_after c x (add_document doc) e = cc
read_after c x (delete_term t) e = cc
read_after c x commit_pending e = cc
read_after c x (merge_range from to) e = cc

-- it neither adds nor commits nor merges
reads_no_writes : (call : Call) → only_reads call ≡ true → ((is_add call || is_commit call) ≡ true → ⊥) × ((is_commit call || is_merge call) ≡ true → ⊥)
reads_no_writes (search_best q k) e = ((λ w. cc), (λ w. cc))
reads_no_writes (count_all q) e = ((λ w. cc), (λ w. cc))
reads_no_writes (add_json s) e = cc
reads_no_writes (add_value d) e = cc
reads_no_writes (add_document doc) e = cc
reads_no_writes (delete_term t) e = cc
reads_no_writes commit_pending e = cc
reads_no_writes (merge_range from to) e = cc

pub left_by_reading : (c : Configuration) (x : Index) (call : Call) {r : Answer} {y : Index} → Leaves c x call r y → only_reads call ≡ true → y ≡ x
left_by_reading c x call (Leaves.refused own is) e = refl
left_by_reading c x call (Leaves.answered is) e = ap (λ s. record { state = s; status = x.status }) (read_after c x call e)
left_by_reading c x call (Leaves.memory_refused open_ adds) e = refl
left_by_reading c x call (Leaves.limit_refused is writes) e = refl
left_by_reading c x call (Leaves.half_written own want is writes) e = absurd ((reads_no_writes call e).0 writes)
left_by_reading c x call (Leaves.device_failed is writes) e = absurd ((reads_no_writes call e).1 writes)
left_by_reading c x call (Leaves.slot_damaged is reads) e = refl

-- a closed index refuses a call so
closed_fault : (c : Configuration) (x : Index) (call : Call) → x.status ≡ closed → call_fault c x call ≡ Some faults.Closed
closed_fault c x call e = ap (λ status. call_fault c (record { state = x.state; status = status }) call) e

closed_made : (c : Configuration) (x : Index) (call : Call) → x.status ≡ closed → call_fault c x call ≡ None → ⊥
closed_made c x call e is = let f = closed_fault c x call e in cc

closed_open : (status : Status) (call : Call) → status ≡ closed → status_fault status (only_reads call) ≡ None → ⊥
closed_open status call e is = let f : status_fault status (only_reads call) ≡ Some faults.Closed = ap (λ s. status_fault s (only_reads call)) e in cc

pub left_closed : (c : Configuration) (x : Index) (call : Call) {r : Answer} {y : Index} → Leaves c x call r y → x.status ≡ closed → (r ≡ failed faults.Closed) × (y ≡ x)
left_closed c x call (Leaves.refused own is) e = let f = closed_fault c x call e in (cc, refl)
left_closed c x call (Leaves.answered is) e = absurd (closed_made c x call e is)
left_closed c x call (Leaves.memory_refused open_ adds) e = absurd (closed_open x.status call e open_)
left_closed c x call (Leaves.limit_refused is writes) e = absurd (closed_made c x call e is)
left_closed c x call (Leaves.half_written own want is writes) e = absurd (closed_made c x call e is)
left_closed c x call (Leaves.device_failed is writes) e = absurd (closed_made c x call e is)
left_closed c x call (Leaves.slot_damaged is reads) e = absurd (closed_made c x call e is)
