use Rattle.std.proofs.Common.{[], Some, ap, arith, false, inl, inr, length, refl, subst, sym, ◌++◌, ◌+◌, ◌^◌, ◌∙◌, ◌∷◌, ◌≡◌, ◌≢◌, ◌≤◌, ◌⊎◌, ⊎_elim}
use Rattle.std.proofs.Math.Logic.{∥∥₁_map}
use Rattle.std.specs.Result.{result_err}
use Rattle.definitions.specs.Calls as calls
use Rattle.definitions.specs.declared.fault.Fault.TheVariants as faults
use Rattle.index_file.proofs.ErrorsKept.{err_has}
use Rattle.index_state.proofs.LongSlots.{long_slot, slot_refused}
use Rattle.index_state.proofs.Outcomes.{err_same, half_way, if_err, own_refuses, ready_of, status_refuses, writer_is_not_ready}
use Rattle.index_state.proofs.Shadows.{not_ok, on_err}
use Rattle.index_state.proofs.Standings.{add_passes, add_taken, add_within, added_stands, holds_some, kept_stands, ready_status, stands_stopped}
use Rattle.index_state.specs.Standing.{AddPasses, HasLongSlot, Stands, state_of, status_of}
use Rattle.segment_definitions.specs.Slots.{slot}
use Rattle.index_state.proofs.index_state.IndexState.add_document.Goals as goal

pub returns-in_err-check_writer-clause-left : goal.returns-in_err-check_writer-clause-left
returns-in_err-check_writer-clause-left g c k x s =
    let call = calls.add_document c.args.doc.now in
    let fault = c.in_err-check_writer.field-0.0 in
    let refuses = ap (λ status. calls.status_fault status false) s.status ∙ sym c.check_writer.ensures.value ∙ ap result_err c.in_err-check_writer.was in
    subst (λ r. (y : calls.Index) × calls.Leaves k x call r y × Stands g.A.Analyzer.analyze c.args.self.now k y) (err_same c.from_residual.result fault c.from_residual.ensures.1)
    (x, calls.refused fault (status_refuses k x call fault refuses), s)

pub returns-in_err-check_document-clause-left : goal.returns-in_err-check_document-clause-left
returns-in_err-check_document-clause-left g c k x s =
    let doc = c.args.doc.now in
    let call = calls.add_document doc in
    let fault = c.in_err-check_document.field-0.0 in
    let ready = ap (λ status. calls.status_fault status false) s.status ∙ sym c.check_writer.ensures.value ∙ ap result_err c.in_ok-check_writer.was in
    let refuses = own_refuses k x call ready ∙ ap (λ (m : calls.Configuration). result_err (calls.document_given m.schema doc)) s.made ∙ sym c.check_document.ensures.fault ∙ ap result_err c.in_err-check_document.was in
    (x, subst (λ r. calls.Leaves k x call r x) (err_same c.from_residual-in_err-check_document.result fault c.from_residual-in_err-check_document.ensures.1) (calls.refused fault refuses), kept_stands g.A.Analyzer.analyze c.args.self.now _ (record { analyzer = refl; schema = refl; settings = refl }) k x s refl refl refl refl refl)

pub returns-in_err-check_slot-clause-left : goal.returns-in_err-check_slot-clause-left
returns-in_err-check_slot-clause-left g c k x s =
    let old = c.args.self.now in
    let doc = c.args.doc.now in
    let call = calls.add_document doc in
    let fault = c.in_err-check_slot.field-0.0 in
    let none = ap (λ status. calls.status_fault status false) s.status ∙ sym c.check_writer.ensures.value ∙ ap result_err c.in_ok-check_writer.was in
    let taken = add_taken g.A.Analyzer.analyze old k x s doc c.in_ok-check_document.ensures.given none in
    (x, subst (λ r. calls.Leaves k x call r x) (err_same c.from_residual-in_err-check_slot.result fault c.from_residual-in_err-check_slot.ensures.1) (long_slot k x call fault c.in_err-check_slot.ensures.err none taken refl), kept_stands g.A.Analyzer.analyze old _ (record { analyzer = refl; schema = refl; settings = refl }) k x s refl refl refl refl refl)

pub returns-in_err-check_slot-clause-limit : goal.returns-in_err-check_slot-clause-limit
returns-in_err-check_slot-clause-limit g c k x s =
    let old = c.args.self.now in
    let doc = c.args.doc.now in
    let fault = c.in_err-check_slot.field-0.0 in
    let err = subst (λ n. (fault ≡ faults.OutOfMemory) ⊎ ((fault ≡ faults.Limit) × (2 ^ 32 ≤ n + length (slot old.schema doc) + 8))) c.block_size.ensures c.in_err-check_slot.ensures.err in
    err_has c.from_residual-in_err-check_slot.result fault (λ f. f ≡ faults.Limit → AddPasses k x.state old doc) c.from_residual-in_err-check_slot.ensures.1 (λ is. inl (slot_refused fault err is))

pub returns-in_err-check_slot-clause-closed : goal.returns-in_err-check_slot-clause-closed
returns-in_err-check_slot-clause-closed g c =
    let old = c.args.self.now in
    let doc = c.args.doc.now in
    let fault = c.in_err-check_slot.field-0.0 in
    let err = subst (λ n. (fault ≡ faults.OutOfMemory) ⊎ ((fault ≡ faults.Limit) × (2 ^ 32 ≤ n + length (slot old.schema doc) + 8))) c.block_size.ensures c.in_err-check_slot.ensures.err in
    err_has c.from_residual-in_err-check_slot.result fault (λ f. f ≡ faults.Limit → (HasLongSlot old doc → ⊥) → state_of old ≡ calls.writer_closed) c.from_residual-in_err-check_slot.ensures.1 (λ is short. absurd (short (slot_refused fault err is)))

pub add-requires-clause-held : goal.add-requires-clause-held
add-requires-clause-held g c =
    let old = c.args.self.now in
    let ready = ready_of (status_of old.status) (sym c.check_writer.ensures.value ∙ ap result_err c.in_ok-check_writer.was) in
    ∥∥₁_map old.held (λ held. held ready)

pub returns-in_err-add-clause-left : goal.returns-in_err-add-clause-left
returns-in_err-add-clause-left g c k x s =
    let old = c.args.self.now in
    let doc = c.args.doc.now in
    let call = calls.add_document doc in
    let fault = c.in_err-add.field-0.0 in
    let none = ap (λ status. calls.status_fault status false) s.status ∙ sym c.check_writer.ensures.value ∙ ap result_err c.in_ok-check_writer.was in
    let taken = add_taken g.A.Analyzer.analyze old k x s doc c.in_ok-check_document.ensures.given none in
    let y : calls.Index = record { state = x.state; status = calls.writer_closed } in (
      y,
      subst (λ r. calls.Leaves k x call r y) (err_same c.from_residual-in_err-add.result fault c.from_residual-in_err-add.ensures.1) (half_way k x call fault c.in_err-add.ensures.err taken refl),
      stands_stopped g.A.Analyzer.analyze old _ (record { analyzer = refl; schema = refl; settings = refl }) k x s calls.writer_closed writer_is_not_ready refl refl s.docs s.segments s.groups,
    )

pub returns-in_err-add-clause-limit : goal.returns-in_err-add-clause-limit
returns-in_err-add-clause-limit g c k x s =
    let old = c.args.self.now in
    let doc = c.args.doc.now in
    let none = ap (λ status. calls.status_fault status false) s.status ∙ sym c.check_writer.ensures.value ∙ ap result_err c.in_ok-check_writer.was in
    let p = s.pending (ready_of x.status none) in
    err_has c.from_residual-in_err-add.result c.in_err-add.field-0.0 (λ f. f ≡ faults.Limit → AddPasses k x.state old doc) c.from_residual-in_err-add.ensures.1
    (λ is. add_passes g.A.Analyzer.analyze old k x s p doc (c.in_err-add.ensures.limit p.full p.last p.holds is))

pub invariant_of-self-2-clause-held : goal.invariant_of-self-2-clause-held
invariant_of-self-2-clause-held g c =
    let old = c.args.self.now in
    let ready = ready_of (status_of old.status) (sym c.check_writer.ensures.value ∙ ap result_err c.in_ok-check_writer.was) in
    ∥∥₁_map old.held (λ held. λ _. (let some = held ready in holds_some old.schema (g.A.Analyzer.analyze old.analyzer) old.settings.block_size old.settings.docs_per_segment c.add.new.self some.0 (some.1 ++ c.args.doc.now ∷ []) (c.in_ok-add.ensures.ok some.0 some.1 some.2)))

pub returns-clause-left : goal.returns-clause-left
returns-clause-left g c k x s =
    let old = c.args.self.now in
    let doc = c.args.doc.now in
    let given = c.in_ok-check_document.ensures.given in
    let none = ap (λ status. calls.status_fault status false) s.status ∙ sym c.check_writer.ensures.value ∙ ap result_err c.in_ok-check_writer.was in
    let ready = ready_of x.status none in
    let p = s.pending ready in
    let status = sym (ready_status old.status (sym s.status ∙ ready)) in (
      record { state = calls.after k x.state (calls.add_document doc); status = x.status },
      calls.answered (add_taken g.A.Analyzer.analyze old k x s doc given none),
      added_stands g.A.Analyzer.analyze old k x s doc given _ (record { analyzer = refl; schema = refl; settings = refl }) status refl refl p refl (c.in_ok-add.ensures.ok p.full p.last p.holds),
    )

pub returns-clause-within : goal.returns-clause-within
returns-clause-within g c k x s =
    let old = c.args.self.now in
    let none = ap (λ status. calls.status_fault status false) s.status ∙ sym c.check_writer.ensures.value ∙ ap result_err c.in_ok-check_writer.was in
    let p = s.pending (ready_of x.status none) in
    add_within g.A.Analyzer.analyze old k x s p c.args.doc.now (c.in_ok-add.ensures.within p.full p.last p.holds).indexed

-- ---- of any index

pub returns-in_err-check_writer-clause-refused : goal.returns-in_err-check_writer-clause-refused
returns-in_err-check_writer-clause-refused g c k x s =
    let refuses = ap (λ status. calls.status_fault status false) s.status ∙ sym c.check_writer.ensures.value ∙ ap result_err c.in_err-check_writer.was in
    err_has c.from_residual.result c.in_err-check_writer.field-0.0 (λ f. f ≢ faults.OutOfMemory → f ≢ faults.Limit → calls.call_fault k x (calls.add_document c.args.doc.now) ≡ Some f) c.from_residual.ensures.1
    (λ memory limit. status_refuses k x (calls.add_document c.args.doc.now) c.in_err-check_writer.field-0.0 refuses)

pub returns-in_err-check_writer-clause-admitted : goal.returns-in_err-check_writer-clause-admitted
returns-in_err-check_writer-clause-admitted g c k x s =
    not_ok c.from_residual.result c.in_err-check_writer.field-0.0 _ c.from_residual.ensures.1

pub returns-in_err-check_writer-clause-same : goal.returns-in_err-check_writer-clause-same
returns-in_err-check_writer-clause-same g c =
    if_err c.from_residual.result _ (λ fault is memory limit. record { made = record { analyzer = refl; schema = refl; settings = refl }; members = refl; waiting = refl; status = refl })

pub returns-in_err-check_writer-clause-same_beside : goal.returns-in_err-check_writer-clause-same_beside
returns-in_err-check_writer-clause-same_beside g c long =
    on_err c.from_residual.result _ (record { made = record { analyzer = refl; schema = refl; settings = refl }; members = refl; waiting = refl; status = refl })

pub returns-in_err-check_writer-clause-stopped : goal.returns-in_err-check_writer-clause-stopped
returns-in_err-check_writer-clause-stopped g c =
    on_err c.from_residual.result _ (inl (record { made = record { analyzer = refl; schema = refl; settings = refl }; members = refl; waiting = refl; status = refl }))

pub returns-in_err-check_writer-clause-ready : goal.returns-in_err-check_writer-clause-ready
returns-in_err-check_writer-clause-ready g c =
    not_ok c.from_residual.result c.in_err-check_writer.field-0.0 _ c.from_residual.ensures.1

pub returns-in_err-check_writer-clause-waits : goal.returns-in_err-check_writer-clause-waits
returns-in_err-check_writer-clause-waits g c =
    not_ok c.from_residual.result c.in_err-check_writer.field-0.0 _ c.from_residual.ensures.1

pub returns-in_err-check_document-clause-refused : goal.returns-in_err-check_document-clause-refused
returns-in_err-check_document-clause-refused g c k x s =
    let doc = c.args.doc.now in
    let none = ap (λ status. calls.status_fault status false) s.status ∙ sym c.check_writer.ensures.value ∙ ap result_err c.in_ok-check_writer.was in
    let refuses = own_refuses k x (calls.add_document doc) none ∙ ap (λ (m : calls.Configuration). result_err (calls.document_given m.schema doc)) s.made ∙ sym c.check_document.ensures.fault ∙ ap result_err c.in_err-check_document.was in
    err_has c.from_residual-in_err-check_document.result c.in_err-check_document.field-0.0 (λ f. f ≢ faults.OutOfMemory → f ≢ faults.Limit → calls.call_fault k x (calls.add_document c.args.doc.now) ≡ Some f) c.from_residual-in_err-check_document.ensures.1 (λ memory limit. refuses)

pub returns-in_err-check_document-clause-admitted : goal.returns-in_err-check_document-clause-admitted
returns-in_err-check_document-clause-admitted g c k x s =
    not_ok c.from_residual-in_err-check_document.result c.in_err-check_document.field-0.0 _ c.from_residual-in_err-check_document.ensures.1

pub returns-in_err-check_document-clause-same : goal.returns-in_err-check_document-clause-same
returns-in_err-check_document-clause-same g c =
    if_err c.from_residual-in_err-check_document.result _ (λ fault is memory limit. record { made = record { analyzer = refl; schema = refl; settings = refl }; members = refl; waiting = refl; status = refl })

pub returns-in_err-check_document-clause-same_beside : goal.returns-in_err-check_document-clause-same_beside
returns-in_err-check_document-clause-same_beside g c long =
    on_err c.from_residual-in_err-check_document.result _ (record { made = record { analyzer = refl; schema = refl; settings = refl }; members = refl; waiting = refl; status = refl })

pub returns-in_err-check_document-clause-stopped : goal.returns-in_err-check_document-clause-stopped
returns-in_err-check_document-clause-stopped g c =
    on_err c.from_residual-in_err-check_document.result _ (inl (record { made = record { analyzer = refl; schema = refl; settings = refl }; members = refl; waiting = refl; status = refl }))

pub returns-in_err-check_document-clause-ready : goal.returns-in_err-check_document-clause-ready
returns-in_err-check_document-clause-ready g c =
    not_ok c.from_residual-in_err-check_document.result c.in_err-check_document.field-0.0 _ c.from_residual-in_err-check_document.ensures.1

pub returns-in_err-check_document-clause-waits : goal.returns-in_err-check_document-clause-waits
returns-in_err-check_document-clause-waits g c =
    not_ok c.from_residual-in_err-check_document.result c.in_err-check_document.field-0.0 _ c.from_residual-in_err-check_document.ensures.1

pub returns-in_err-check_slot-clause-refused : goal.returns-in_err-check_slot-clause-refused
returns-in_err-check_slot-clause-refused g c k x s =
    err_has c.from_residual-in_err-check_slot.result c.in_err-check_slot.field-0.0 (λ f. f ≢ faults.OutOfMemory → f ≢ faults.Limit → calls.call_fault k x (calls.add_document c.args.doc.now) ≡ Some f) c.from_residual-in_err-check_slot.ensures.1
    (λ memory limit. absurd (⊎_elim (λ m. memory m) (λ l. limit l.0) c.in_err-check_slot.ensures.err))

pub returns-in_err-check_slot-clause-admitted : goal.returns-in_err-check_slot-clause-admitted
returns-in_err-check_slot-clause-admitted g c k x s =
    not_ok c.from_residual-in_err-check_slot.result c.in_err-check_slot.field-0.0 _ c.from_residual-in_err-check_slot.ensures.1

pub returns-in_err-check_slot-clause-same : goal.returns-in_err-check_slot-clause-same
returns-in_err-check_slot-clause-same g c =
    if_err c.from_residual-in_err-check_slot.result _ (λ fault is memory limit. record { made = record { analyzer = refl; schema = refl; settings = refl }; members = refl; waiting = refl; status = refl })

pub returns-in_err-check_slot-clause-same_beside : goal.returns-in_err-check_slot-clause-same_beside
returns-in_err-check_slot-clause-same_beside g c long =
    on_err c.from_residual-in_err-check_slot.result _ (record { made = record { analyzer = refl; schema = refl; settings = refl }; members = refl; waiting = refl; status = refl })

pub returns-in_err-check_slot-clause-stopped : goal.returns-in_err-check_slot-clause-stopped
returns-in_err-check_slot-clause-stopped g c =
    on_err c.from_residual-in_err-check_slot.result _ (inl (record { made = record { analyzer = refl; schema = refl; settings = refl }; members = refl; waiting = refl; status = refl }))

pub returns-in_err-check_slot-clause-ready : goal.returns-in_err-check_slot-clause-ready
returns-in_err-check_slot-clause-ready g c =
    not_ok c.from_residual-in_err-check_slot.result c.in_err-check_slot.field-0.0 _ c.from_residual-in_err-check_slot.ensures.1

pub returns-in_err-check_slot-clause-waits : goal.returns-in_err-check_slot-clause-waits
returns-in_err-check_slot-clause-waits g c =
    not_ok c.from_residual-in_err-check_slot.result c.in_err-check_slot.field-0.0 _ c.from_residual-in_err-check_slot.ensures.1

pub returns-in_err-add-clause-refused : goal.returns-in_err-add-clause-refused
returns-in_err-add-clause-refused g c k x s =
    err_has c.from_residual-in_err-add.result c.in_err-add.field-0.0 (λ f. f ≢ faults.OutOfMemory → f ≢ faults.Limit → calls.call_fault k x (calls.add_document c.args.doc.now) ≡ Some f) c.from_residual-in_err-add.ensures.1
    (λ memory limit. absurd (⊎_elim (λ m. memory m) (λ l. limit l) c.in_err-add.ensures.err))

pub returns-in_err-add-clause-admitted : goal.returns-in_err-add-clause-admitted
returns-in_err-add-clause-admitted g c k x s =
    not_ok c.from_residual-in_err-add.result c.in_err-add.field-0.0 _ c.from_residual-in_err-add.ensures.1

pub returns-in_err-add-clause-same : goal.returns-in_err-add-clause-same
returns-in_err-add-clause-same g c =
    let old = c.args.self.now in
    err_has c.from_residual-in_err-add.result c.in_err-add.field-0.0 _ c.from_residual-in_err-add.ensures.1
    (λ memory limit. absurd (⊎_elim (λ m. memory m) (λ l. limit l) c.in_err-add.ensures.err))

pub returns-in_err-add-clause-same_beside : goal.returns-in_err-add-clause-same_beside
returns-in_err-add-clause-same_beside g c long =
    let short = c.in_ok-check_slot.ensures.ok in
    let size = c.block_size.ensures in
    absurd (omega (arith, long, short, size))

pub returns-in_err-add-clause-stopped : goal.returns-in_err-add-clause-stopped
returns-in_err-add-clause-stopped g c =
    on_err c.from_residual-in_err-add.result _ (inr (record { made = record { analyzer = refl; schema = refl; settings = refl }; members = refl; stopped = refl }))

pub returns-in_err-add-clause-ready : goal.returns-in_err-add-clause-ready
returns-in_err-add-clause-ready g c =
    not_ok c.from_residual-in_err-add.result c.in_err-add.field-0.0 _ c.from_residual-in_err-add.ensures.1

pub returns-in_err-add-clause-waits : goal.returns-in_err-add-clause-waits
returns-in_err-add-clause-waits g c =
    not_ok c.from_residual-in_err-add.result c.in_err-add.field-0.0 _ c.from_residual-in_err-add.ensures.1

pub returns-clause-admitted : goal.returns-clause-admitted
returns-clause-admitted g c k x s =
    let doc = c.args.doc.now in
    let none = ap (λ status. calls.status_fault status false) s.status ∙ sym c.check_writer.ensures.value ∙ ap result_err c.in_ok-check_writer.was in
    own_refuses k x (calls.add_document doc) none ∙ ap (λ (m : calls.Configuration). result_err (calls.document_given m.schema doc)) s.made ∙ sym c.check_document.ensures.fault ∙ ap result_err c.in_ok-check_document.was

pub returns-clause-waits : goal.returns-clause-waits
returns-clause-waits g c =
    (refl, c.in_ok-add.ensures.ok)
