use Rattle.std.proofs.Common.{None, Some, ap, inr, subst, sym, true, ◌∙◌, ◌≡◌, ◌≢◌}
use Rattle.std.proofs.lemmas.Result.{IfOk-weaker}
use Rattle.std.specs.List.{AllZip}
use Rattle.std.specs.Result.{result_err}
use Rattle.definitions.specs.Alive.{live}
use Rattle.definitions.specs.Calls as calls
use Rattle.definitions.specs.Refusing.{refusal}
use Rattle.definitions.specs.Scanning.{scan_count}
use Rattle.definitions.specs.Settings.{similarity_of}
use Rattle.definitions.specs.State as states
use Rattle.definitions.specs.declared.fault.Fault.TheVariants as faults
use Rattle.query_trees.specs.Queries.{query_of}
use Rattle.segment.specs.Opened.{StandsFor}
use Rattle.index_state.proofs.Outcomes.{closed_is_no_memory, own_refuses, status_refuses}
use Rattle.definitions.proofs.Lists.{err_map}
use Rattle.index_file.proofs.ErrorsKept.{err_has}
use Rattle.index_state.proofs.Searching.{live_committed, ok_both, query_refused, query_taken}
use Rattle.index_state.proofs.Shadows.{not_ok, query_by}
use Rattle.index_state.specs.Flags.{flagged_each}
use Rattle.index_state.proofs.index_state.IndexState.count.Goals as goal

pub returns-in_err-check_open-clause-err : goal.returns-in_err-check_open-clause-err
returns-in_err-check_open-clause-err g c k x s =
    let call = calls.count_all (query_of c.args.query.now) in
    let fault = c.in_err-check_open.field-0.0 in
    err_has c.from_residual.result fault (λ f. f ≢ faults.OutOfMemory → calls.call_fault k x call ≡ Some f) c.from_residual.ensures.1
    (λ other. status_refuses k x call fault (ap (λ status. calls.status_fault status true) s.status ∙ sym c.check_open.ensures.value ∙ ap result_err c.in_err-check_open.was))

pub returns-clause-ok : goal.returns-clause-ok
returns-clause-ok g c k x s =
    let index = c.args.self.now in
    let analyze = g.A.Analyzer.analyze index.analyzer in
    let q = query_of c.args.query.now in
    let call = calls.count_all q in
    let ready = ap (λ status. calls.status_fault status true) s.status ∙ sym c.check_open.ensures.value ∙ ap result_err c.in_ok-check_open.was in
    let stands = subst (AllZip (StandsFor index.schema analyze) s.docs) (sym c.deref.ensures.value) s.segments in
    let seen = ap (λ sets. live (flagged_each s.docs sets)) c.deref-2.ensures.value ∙ live_committed g.A.Analyzer.analyze index k x s in
    ok_both c.count.result _ _ _
    (λ count taken told. (
      own_refuses k x call ready ∙ query_taken g.A.Analyzer.analyze index k x s q taken,
      subst (λ (m : calls.Configuration). count ≡ scan_count m.schema m.analyze (states.committed x.state) q) (sym s.made) (told ∙ ap (λ ds. scan_count index.schema analyze ds q) seen),
    ))
    c.count.ensures.accepted (c.count.ensures.ok analyze s.docs stands)

pub returns-clause-err : goal.returns-clause-err
returns-clause-err g c k x s =
    let index = c.args.self.now in
    let q = query_of c.args.query.now in
    let call = calls.count_all q in
    let ready = ap (λ status. calls.status_fault status true) s.status ∙ sym c.check_open.ensures.value ∙ ap result_err c.in_ok-check_open.was in
    err_map c.count.result _ _ (λ fault told other. own_refuses k x call ready ∙ query_refused g.A.Analyzer.analyze index k x s q fault (told other)) c.count.ensures.refused

pub returns-in_err-check_open-clause-own : goal.returns-in_err-check_open-clause-own
returns-in_err-check_open-clause-own g c k x s =
    let call = calls.count_all (query_of c.args.query.now) in
    err_has c.from_residual.result c.in_err-check_open.field-0.0 (λ f. f ≡ faults.OutOfMemory → calls.call_fault k x call ≡ None) c.from_residual.ensures.1
    (λ memory. absurd (closed_is_no_memory (sym c.in_err-check_open.ensures.fault ∙ memory)))

pub returns-clause-faults : goal.returns-clause-faults
returns-clause-faults g c = err_map c.count.result _ _ (λ fault told. inr told) c.count.ensures.faults

pub returns-clause-own : goal.returns-clause-own
returns-clause-own g c k x s =
    let index = c.args.self.now in
    let q = query_of c.args.query.now in
    let call = calls.count_all q in
    let ready = ap (λ status. calls.status_fault status true) s.status ∙ sym c.check_open.ensures.value ∙ ap result_err c.in_ok-check_open.was in
    err_map c.count.result _ _ (λ fault told memory. own_refuses k x call ready ∙ query_taken g.A.Analyzer.analyze index k x s q (told memory)) c.count.ensures.own

pub returns-in_err-check_open-clause-memory : goal.returns-in_err-check_open-clause-memory
returns-in_err-check_open-clause-memory g c =
    let index = c.args.self.now in
    err_has c.from_residual.result c.in_err-check_open.field-0.0 (λ f. f ≡ faults.OutOfMemory → refusal index.schema (similarity_of index.settings).weight (query_of c.args.query.now) ≡ None) c.from_residual.ensures.1
    (λ memory. absurd (closed_is_no_memory (sym c.in_err-check_open.ensures.fault ∙ memory)))

pub returns-clause-accepted : goal.returns-clause-accepted
returns-clause-accepted g c = c.count.ensures.accepted

pub returns-clause-memory : goal.returns-clause-memory
returns-clause-memory g c = c.count.ensures.own

-- ---- of any index

pub returns-in_err-check_open-clause-refused : goal.returns-in_err-check_open-clause-refused
returns-in_err-check_open-clause-refused g c k x s =
    let call = calls.count_all (query_of c.args.query.now) in
    let fault = c.in_err-check_open.field-0.0 in
    err_has c.from_residual.result fault (λ f. f ≢ faults.OutOfMemory → calls.call_fault k x call ≡ Some f) c.from_residual.ensures.1
    (λ other. status_refuses k x call fault (ap (λ status. calls.status_fault status true) s.status ∙ sym c.check_open.ensures.value ∙ ap result_err c.in_err-check_open.was))

pub returns-in_err-check_open-clause-admitted : goal.returns-in_err-check_open-clause-admitted
returns-in_err-check_open-clause-admitted g c k x s =
    not_ok c.from_residual.result c.in_err-check_open.field-0.0 _ c.from_residual.ensures.1

pub returns-clause-refused : goal.returns-clause-refused
returns-clause-refused g c k x s =
    let index = c.args.self.now in
    let q = query_of c.args.query.now in
    let ready = ap (λ status. calls.status_fault status true) s.status ∙ sym c.check_open.ensures.value ∙ ap result_err c.in_ok-check_open.was in
    err_map c.count.result _ _ (λ fault told other. own_refuses k x (calls.count_all q) ready ∙ query_by g.A.Analyzer.analyze index k x s q (Some fault) (told other)) c.count.ensures.refused

pub returns-clause-admitted : goal.returns-clause-admitted
returns-clause-admitted g c k x s =
    let index = c.args.self.now in
    let q = query_of c.args.query.now in
    let ready = ap (λ status. calls.status_fault status true) s.status ∙ sym c.check_open.ensures.value ∙ ap result_err c.in_ok-check_open.was in
    IfOk-weaker c.count.result _ _ (λ count taken. own_refuses k x (calls.count_all q) ready ∙ query_by g.A.Analyzer.analyze index k x s q None taken) c.count.ensures.accepted
