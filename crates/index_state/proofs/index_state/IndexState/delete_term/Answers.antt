use Rattle.std.proofs.Common.{Some, ap, false, refl, subst, sym, ◌∙◌, ◌≡◌, ◌≢◌}
use Rattle.std.specs.Result.{result_err}
use Rattle.definitions.specs.Calls as calls
use Rattle.definitions.specs.declared.fault.Fault.TheVariants as faults
use Rattle.index_file.proofs.ErrorsKept.{err_has}
use Rattle.index_state.proofs.Outcomes.{err_same, own_refuses, ready_of, status_refuses}
use Rattle.index_state.proofs.Shadows.{not_ok, on_err}
use Rattle.index_state.proofs.Standings.{deleted_stands, kept_stands}
use Rattle.index_state.specs.Standing.{Stands, status_of}
use Rattle.index_state.specs.declared.deletions.Deletion.{Deletion}
use Rattle.index_state.proofs.index_state.IndexState.delete_term.Goals as goal

pub returns-in_err-check_writer-clause-left : goal.returns-in_err-check_writer-clause-left
returns-in_err-check_writer-clause-left g c k x s =
    let call = calls.delete_term c.args.term.now in
    let fault = c.in_err-check_writer.field-0.0 in
    let refuses = ap (λ status. calls.status_fault status false) s.status ∙ sym c.check_writer.ensures.value ∙ ap result_err c.in_err-check_writer.was in
    subst (λ r. (y : calls.Index) × calls.Leaves k x call r y × Stands g.A.Analyzer.analyze c.args.self.now k y) (err_same c.from_residual.result fault c.from_residual.ensures.1)
    (x, calls.refused fault (status_refuses k x call fault refuses), s)

pub returns-in_err-check_deletion-clause-left : goal.returns-in_err-check_deletion-clause-left
returns-in_err-check_deletion-clause-left g c k x s =
    let term = c.args.term.now in
    let call = calls.delete_term term in
    let fault = c.in_err-check_deletion.field-0.0 in
    let ready = ap (λ status. calls.status_fault status false) s.status ∙ sym c.check_writer.ensures.value ∙ ap result_err c.in_ok-check_writer.was in
    let refuses = own_refuses k x call ready ∙ ap (λ (m : calls.Configuration). calls.delete_fault m.schema term) s.made ∙ sym c.check_deletion.ensures ∙ ap result_err c.in_err-check_deletion.was in
    subst (λ r. (y : calls.Index) × calls.Leaves k x call r y × Stands g.A.Analyzer.analyze c.args.self.now k y) (err_same c.from_residual-in_err-check_deletion.result fault c.from_residual-in_err-check_deletion.ensures.1)
    (x, calls.refused fault refuses, s)

pub returns-in_err-copied-clause-left : goal.returns-in_err-copied-clause-left
returns-in_err-copied-clause-left g c k x s =
    let call = calls.delete_term c.args.term.now in
    let ready = ap (λ status. calls.status_fault status false) s.status ∙ sym c.check_writer.ensures.value ∙ ap result_err c.in_ok-check_writer.was in
    (x, subst (λ r. calls.Leaves k x call r x) (err_same c.from_residual-in_err-copied.result faults.OutOfMemory c.from_residual-in_err-copied.ensures.1) (calls.memory_refused ready refl), s)

pub returns-in_err-push-clause-left : goal.returns-in_err-push-clause-left
returns-in_err-push-clause-left g c k x s =
    let old = c.args.self.now in
    let call = calls.delete_term c.args.term.now in
    let ready = ap (λ status. calls.status_fault status false) s.status ∙ sym c.check_writer.ensures.value ∙ ap result_err c.in_ok-check_writer.was in
    (x, subst (λ r. calls.Leaves k x call r x) (err_same c.from_residual-in_err-push.result faults.OutOfMemory c.from_residual-in_err-push.ensures.1) (calls.memory_refused ready refl), kept_stands g.A.Analyzer.analyze old _ (record { analyzer = refl; schema = refl; settings = refl }) k x s refl refl refl refl c.in_err-push.ensures.items)

pub returns-clause-left : goal.returns-clause-left
returns-clause-left g c k x s =
    let old = c.args.self.now in
    let term = c.args.term.now in
    let call = calls.delete_term term in
    let none = ap (λ status. calls.status_fault status false) s.status ∙ sym c.check_writer.ensures.value ∙ ap result_err c.in_ok-check_writer.was in
    let taken = own_refuses k x call none ∙ ap (λ (m : calls.Configuration). calls.delete_fault m.schema term) s.made ∙ sym c.check_deletion.ensures ∙ ap result_err c.in_ok-check_deletion.was in
    let ready = ready_of x.status none in
    let p = s.pending ready in
    let analyze = g.A.Analyzer.analyze old.analyzer in
    let d : Deletion = record { term = c.in_ok-copied.field-0; segments = c.num_full.result; docs = c.num_open_docs.result } in
    let before = c.num_full.ensures old.schema analyze old.settings.block_size p.full p.last p.holds in
    let docs = c.num_open_docs.ensures old.schema analyze old.settings.block_size p.full p.last p.holds in (
      record { state = calls.after k x.state call; status = x.status },
      calls.answered taken,
      deleted_stands g.A.Analyzer.analyze old _ (record { analyzer = refl; schema = refl; settings = refl }) k x s p d refl refl refl refl c.in_ok-push.ensures.items before docs term c.in_ok-copied.ensures,
    )

-- ---- of any index

pub returns-in_err-check_writer-clause-refused : goal.returns-in_err-check_writer-clause-refused
returns-in_err-check_writer-clause-refused g c k x s =
    let refuses = ap (λ status. calls.status_fault status false) s.status ∙ sym c.check_writer.ensures.value ∙ ap result_err c.in_err-check_writer.was in
    err_has c.from_residual.result c.in_err-check_writer.field-0.0 (λ f. f ≢ faults.OutOfMemory → calls.call_fault k x (calls.delete_term c.args.term.now) ≡ Some f) c.from_residual.ensures.1
    (λ memory. status_refuses k x (calls.delete_term c.args.term.now) c.in_err-check_writer.field-0.0 refuses)

pub returns-in_err-check_writer-clause-admitted : goal.returns-in_err-check_writer-clause-admitted
returns-in_err-check_writer-clause-admitted g c k x s =
    not_ok c.from_residual.result c.in_err-check_writer.field-0.0 _ c.from_residual.ensures.1

pub returns-in_err-check_writer-clause-same : goal.returns-in_err-check_writer-clause-same
returns-in_err-check_writer-clause-same g c =
    on_err c.from_residual.result _ (record { made = record { analyzer = refl; schema = refl; settings = refl }; members = refl; waiting = refl; status = refl })

pub returns-in_err-check_writer-clause-ready : goal.returns-in_err-check_writer-clause-ready
returns-in_err-check_writer-clause-ready g c =
    not_ok c.from_residual.result c.in_err-check_writer.field-0.0 _ c.from_residual.ensures.1

pub returns-in_err-check_writer-clause-waits : goal.returns-in_err-check_writer-clause-waits
returns-in_err-check_writer-clause-waits g c =
    not_ok c.from_residual.result c.in_err-check_writer.field-0.0 _ c.from_residual.ensures.1

pub returns-in_err-check_deletion-clause-refused : goal.returns-in_err-check_deletion-clause-refused
returns-in_err-check_deletion-clause-refused g c k x s =
    let term = c.args.term.now in
    let none = ap (λ status. calls.status_fault status false) s.status ∙ sym c.check_writer.ensures.value ∙ ap result_err c.in_ok-check_writer.was in
    let refuses = own_refuses k x (calls.delete_term term) none ∙ ap (λ (m : calls.Configuration). calls.delete_fault m.schema term) s.made ∙ sym c.check_deletion.ensures ∙ ap result_err c.in_err-check_deletion.was in
    err_has c.from_residual-in_err-check_deletion.result c.in_err-check_deletion.field-0.0 (λ f. f ≢ faults.OutOfMemory → calls.call_fault k x (calls.delete_term c.args.term.now) ≡ Some f) c.from_residual-in_err-check_deletion.ensures.1 (λ memory. refuses)

pub returns-in_err-check_deletion-clause-admitted : goal.returns-in_err-check_deletion-clause-admitted
returns-in_err-check_deletion-clause-admitted g c k x s =
    not_ok c.from_residual-in_err-check_deletion.result c.in_err-check_deletion.field-0.0 _ c.from_residual-in_err-check_deletion.ensures.1

pub returns-in_err-check_deletion-clause-same : goal.returns-in_err-check_deletion-clause-same
returns-in_err-check_deletion-clause-same g c =
    on_err c.from_residual-in_err-check_deletion.result _ (record { made = record { analyzer = refl; schema = refl; settings = refl }; members = refl; waiting = refl; status = refl })

pub returns-in_err-check_deletion-clause-ready : goal.returns-in_err-check_deletion-clause-ready
returns-in_err-check_deletion-clause-ready g c =
    not_ok c.from_residual-in_err-check_deletion.result c.in_err-check_deletion.field-0.0 _ c.from_residual-in_err-check_deletion.ensures.1

pub returns-in_err-check_deletion-clause-waits : goal.returns-in_err-check_deletion-clause-waits
returns-in_err-check_deletion-clause-waits g c =
    not_ok c.from_residual-in_err-check_deletion.result c.in_err-check_deletion.field-0.0 _ c.from_residual-in_err-check_deletion.ensures.1

pub returns-in_err-copied-clause-refused : goal.returns-in_err-copied-clause-refused
returns-in_err-copied-clause-refused g c k x s =
    err_has c.from_residual-in_err-copied.result faults.OutOfMemory (λ f. f ≢ faults.OutOfMemory → calls.call_fault k x (calls.delete_term c.args.term.now) ≡ Some f) c.from_residual-in_err-copied.ensures.1 (λ memory. absurd (memory refl))

pub returns-in_err-copied-clause-admitted : goal.returns-in_err-copied-clause-admitted
returns-in_err-copied-clause-admitted g c k x s =
    not_ok c.from_residual-in_err-copied.result faults.OutOfMemory _ c.from_residual-in_err-copied.ensures.1

pub returns-in_err-copied-clause-same : goal.returns-in_err-copied-clause-same
returns-in_err-copied-clause-same g c =
    on_err c.from_residual-in_err-copied.result _ (record { made = record { analyzer = refl; schema = refl; settings = refl }; members = refl; waiting = refl; status = refl })

pub returns-in_err-copied-clause-ready : goal.returns-in_err-copied-clause-ready
returns-in_err-copied-clause-ready g c =
    not_ok c.from_residual-in_err-copied.result faults.OutOfMemory _ c.from_residual-in_err-copied.ensures.1

pub returns-in_err-copied-clause-waits : goal.returns-in_err-copied-clause-waits
returns-in_err-copied-clause-waits g c =
    not_ok c.from_residual-in_err-copied.result faults.OutOfMemory _ c.from_residual-in_err-copied.ensures.1

pub returns-in_err-push-clause-refused : goal.returns-in_err-push-clause-refused
returns-in_err-push-clause-refused g c k x s =
    err_has c.from_residual-in_err-push.result faults.OutOfMemory (λ f. f ≢ faults.OutOfMemory → calls.call_fault k x (calls.delete_term c.args.term.now) ≡ Some f) c.from_residual-in_err-push.ensures.1 (λ memory. absurd (memory refl))

pub returns-in_err-push-clause-admitted : goal.returns-in_err-push-clause-admitted
returns-in_err-push-clause-admitted g c k x s =
    not_ok c.from_residual-in_err-push.result faults.OutOfMemory _ c.from_residual-in_err-push.ensures.1

pub returns-in_err-push-clause-same : goal.returns-in_err-push-clause-same
returns-in_err-push-clause-same g c =
    on_err c.from_residual-in_err-push.result _ (record { made = record { analyzer = refl; schema = refl; settings = refl }; members = refl; waiting = ap (λ ds. (c.args.self.now.pending, ds)) c.in_err-push.ensures.items; status = refl })

pub returns-in_err-push-clause-ready : goal.returns-in_err-push-clause-ready
returns-in_err-push-clause-ready g c =
    not_ok c.from_residual-in_err-push.result faults.OutOfMemory _ c.from_residual-in_err-push.ensures.1

pub returns-in_err-push-clause-waits : goal.returns-in_err-push-clause-waits
returns-in_err-push-clause-waits g c =
    not_ok c.from_residual-in_err-push.result faults.OutOfMemory _ c.from_residual-in_err-push.ensures.1

pub returns-clause-admitted : goal.returns-clause-admitted
returns-clause-admitted g c k x s =
    let term = c.args.term.now in
    let none = ap (λ status. calls.status_fault status false) s.status ∙ sym c.check_writer.ensures.value ∙ ap result_err c.in_ok-check_writer.was in
    own_refuses k x (calls.delete_term term) none ∙ ap (λ (m : calls.Configuration). calls.delete_fault m.schema term) s.made ∙ sym c.check_deletion.ensures ∙ ap result_err c.in_ok-check_deletion.was

pub returns-clause-ready : goal.returns-clause-ready
returns-clause-ready g c =
    ready_of (status_of c.args.self.now.status) (sym c.check_writer.ensures.value ∙ ap result_err c.in_ok-check_writer.was)

pub returns-clause-waits : goal.returns-clause-waits
returns-clause-waits g c =
    let old = c.args.self.now in
    let d : Deletion = record { term = c.in_ok-copied.field-0; segments = c.num_full.result; docs = c.num_open_docs.result } in
    (d, c.in_ok-copied.ensures, ap (λ ds. (old.pending, ds)) c.in_ok-push.ensures.items)
