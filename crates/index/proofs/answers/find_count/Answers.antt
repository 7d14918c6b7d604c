use Rattle.std.proofs.Common.{false, None, Some, true, true≢false, subst, sym, ◌≡◌, ◌≢◌}
use Rattle.std.specs.Result.{result_err}
use Rattle.definitions.specs.QueryGrammar.{query_in}
use Rattle.definitions.specs.Calls as calls
use Rattle.definitions.specs.Replies.{count_reply}
use Rattle.definitions.specs.Requests as requests
use Rattle.definitions.specs.Scanning as scanning
use Rattle.definitions.specs.State.{committed}
use Rattle.definitions.specs.Step as steps
use Rattle.definitions.specs.declared.fault.Fault.TheVariants as faults
use Rattle.definitions.proofs.Steps.{refused_call}
use Rattle.query_trees.specs.Queries.{query_of}
use Rattle.index_file.proofs.ErrorsKept.{err_has}
use Rattle.index.proofs.Answering.{count_answered, read_count, unread_count}
use Rattle.definitions.proofs.Lists.{err_map as err_weaker, IfOk-map as ok_weaker}
use Rattle.serde_json.specs.View.{view}
use Rattle.std.proofs.Common.{ap, ◌∙◌}
use Rattle.definitions.specs.Replying.{stops}
use Rattle.index.proofs.Causes.{call_goes_on, status_goes_on}
use Rattle.index.specs.Outcomes.{Ends}
use Rattle.index.proofs.Endings.{all_stays, count_ends, early_ends, told_error}
use Rattle.index.proofs.answers.find_count.Goals as goal

pub returns-clause-ok : goal.returns-clause-ok
returns-clause-ok g c k x s =
    let d = view c.args.query.now in
    let q = query_of c.in_ok-query.query in
    let read = subst (λ m. query_in m.schema d ≡ Some q) (sym s.made) (subst (λ fields. query_in fields d ≡ Some q) c.schema.ensures c.in_ok-query.ensures.ok) in
    ok_weaker c.count.result
    (λ count. (calls.call_fault k x (calls.count_all q) ≡ None) × (count ≡ scanning.scan_count k.schema k.analyze (committed x.state) q))
    (λ count. steps.index_step k x (requests.count_docs d) ≡ (count_reply count, x))
    (λ count p. count_answered k x d q read p.0 ∙ ap (λ n. (count_reply n, x)) (sym p.1))
    (c.count.ensures.ok k x s)

pub returns-clause-err : goal.returns-clause-err
returns-clause-err g c k x s =
    let d = view c.args.query.now in
    let q = query_of c.in_ok-query.query in
    let read = subst (λ m. query_in m.schema d ≡ Some q) (sym s.made) (subst (λ fields. query_in fields d ≡ Some q) c.schema.ensures c.in_ok-query.ensures.ok) in
    err_weaker c.count.result
    (λ fault. fault ≢ faults.OutOfMemory → calls.call_fault k x (calls.count_all q) ≡ Some fault)
    (λ fault. fault ≢ faults.OutOfMemory → steps.index_step k x (requests.count_docs d) ≡ steps.refusing fault x)
    (λ fault refused other. refused_call k x (requests.count_docs d) (calls.count_all q) fault (read_count k d q read) (refused other))
    (c.count.ensures.err k x s)

-- a closed index refuses before the query is read
pub returns-in_err-check_open-clause-err : goal.returns-in_err-check_open-clause-err
returns-in_err-check_open-clause-err g c k x s =
    let request = requests.count_docs (view c.args.query.now) in
    let fault = c.in_err-check_open.field-0.0 in
    let closed : calls.status_fault x.status true ≡ Some fault = sym (c.check_open.ensures.stands k x s) ∙ ap result_err c.in_err-check_open.was in
    err_has c.from_residual.result fault (λ e. e ≢ faults.OutOfMemory → steps.index_step k x request ≡ steps.refusing e x) c.from_residual.ensures.1
    (λ other. ap (λ o. steps.refused_or o x (steps.call_step k x (steps.call_in k.schema request))) closed)

pub returns-in_err-check_open-clause-goes_on : goal.returns-in_err-check_open-clause-goes_on
returns-in_err-check_open-clause-goes_on g c k x s =
    let fault = c.in_err-check_open.field-0.0 in
    let closed : calls.status_fault x.status true ≡ Some fault = sym (c.check_open.ensures.stands k x s) ∙ ap result_err c.in_err-check_open.was in
    err_has c.from_residual.result fault (λ e. e ≢ faults.OutOfMemory → stops e ≡ false) c.from_residual.ensures.1 (λ other. status_goes_on x.status true fault closed)

pub returns-in_err-query-clause-err : goal.returns-in_err-query-clause-err
returns-in_err-query-clause-err g c k x s =
    let d = view c.args.query.now in
    let fault = c.in_err-query.field-0.0 in
    let ready : calls.status_fault x.status true ≡ None = sym (c.check_open.ensures.stands k x s) ∙ ap result_err c.in_ok-check_open.was in
    err_has c.from_residual-in_err-query.result fault (λ e. e ≢ faults.OutOfMemory → steps.index_step k x (requests.count_docs d) ≡ steps.refusing e x) c.from_residual-in_err-query.ensures.1
    (λ other.
    let unread = c.in_err-query.ensures.err other in
    let none = subst (λ m. query_in m.schema d ≡ None) (sym s.made) (subst (λ fields. query_in fields d ≡ None) c.schema.ensures unread.1) in
    subst (λ e. steps.index_step k x (requests.count_docs d) ≡ steps.refusing e x) (sym unread.0) (unread_count k x d ready none))

pub returns-in_err-query-clause-goes_on : goal.returns-in_err-query-clause-goes_on
returns-in_err-query-clause-goes_on g c k x s =
    let fault = c.in_err-query.field-0.0 in
    err_has c.from_residual-in_err-query.result fault (λ e. e ≢ faults.OutOfMemory → stops e ≡ false) c.from_residual-in_err-query.ensures.1 (λ other. ap stops ((c.in_err-query.ensures.err other).0))

pub returns-clause-goes_on : goal.returns-clause-goes_on
returns-clause-goes_on g c k x s =
    let q = query_of c.in_ok-query.query in
    let call = calls.count_all q in
    err_weaker c.count.result
    (λ fault. fault ≢ faults.OutOfMemory → calls.call_fault k x call ≡ Some fault)
    (λ fault. fault ≢ faults.OutOfMemory → stops fault ≡ false)
    (λ fault refused other. call_goes_on k x call fault (refused other))
    (c.count.ensures.err k x s)

pub returns-in_err-check_open-clause-own : goal.returns-in_err-check_open-clause-own
returns-in_err-check_open-clause-own g c k x s =
    let fault = c.in_err-check_open.field-0.0 in
    let closed : calls.status_fault x.status true ≡ Some fault = sym (c.check_open.ensures.stands k x s) ∙ ap result_err c.in_err-check_open.was in
    err_has c.from_residual.result fault (λ e. e ≡ faults.OutOfMemory → calls.status_fault x.status true ≡ None) c.from_residual.ensures.1
    (λ memory. absurd (true≢false (sym (ap stops memory) ∙ status_goes_on x.status true fault closed)))

pub returns-in_err-query-clause-own : goal.returns-in_err-query-clause-own
returns-in_err-query-clause-own g c k x s =
    let ready : calls.status_fault x.status true ≡ None = sym (c.check_open.ensures.stands k x s) ∙ ap result_err c.in_ok-check_open.was in
    err_has c.from_residual-in_err-query.result c.in_err-query.field-0.0 (λ e. e ≡ faults.OutOfMemory → calls.status_fault x.status true ≡ None) c.from_residual-in_err-query.ensures.1 (λ memory. ready)

pub returns-clause-own : goal.returns-clause-own
returns-clause-own g c k x s =
    let ready : calls.status_fault x.status true ≡ None = sym (c.check_open.ensures.stands k x s) ∙ ap result_err c.in_ok-check_open.was in
    err_weaker c.count.result _ _ (λ fault told memory. ready) (c.count.ensures.own k x s)

-- ---- an index of whatever documents

pub returns-clause-ends : goal.returns-clause-ends
returns-clause-ends g c k x shadow =
    let d = view c.args.query.now in
    let q = query_of c.in_ok-query.query in
    let read = subst (λ m. query_in m.schema d ≡ Some q) (sym shadow.made) (subst (λ fields. query_in fields d ≡ Some q) c.schema.ensures c.in_ok-query.ensures.ok) in
    count_ends g.A.Analyzer.analyze c.args.index.now c.args.index.now k x d (query_of c.in_ok-query.query) c.count.result read (c.count.ensures.refused k x shadow) (c.count.ensures.admitted k x shadow) (all_stays c.args.index.now)

pub returns-in_err-check_open-clause-ends : goal.returns-in_err-check_open-clause-ends
returns-in_err-check_open-clause-ends g c k x shadow =
    let analyze = g.A.Analyzer.analyze in
    let index = c.args.index.now in
    let request = requests.count_docs (view c.args.query.now) in
    let fault = c.in_err-check_open.field-0.0 in
    let closed : calls.status_fault x.status true ≡ Some fault = ap (λ s. calls.status_fault s true) shadow.status ∙ sym c.check_open.ensures.status ∙ ap result_err c.in_err-check_open.was in
    told_error c.from_residual.result count_reply fault (Ends analyze index index k x request) c.from_residual.ensures.1
    (early_ends analyze index index k x request fault (all_stays index) (λ other. ap (λ o. steps.refused_or o x (steps.call_step k x (steps.call_in k.schema request))) closed))

pub returns-in_err-query-clause-ends : goal.returns-in_err-query-clause-ends
returns-in_err-query-clause-ends g c k x shadow =
    let analyze = g.A.Analyzer.analyze in
    let index = c.args.index.now in
    let d = view c.args.query.now in
    let request = requests.count_docs (view c.args.query.now) in
    let fault = c.in_err-query.field-0.0 in
    let ready : calls.status_fault x.status true ≡ None = ap (λ s. calls.status_fault s true) shadow.status ∙ sym c.check_open.ensures.status ∙ ap result_err c.in_ok-check_open.was in
    told_error c.from_residual-in_err-query.result count_reply fault (Ends analyze index index k x request) c.from_residual-in_err-query.ensures.1
    (early_ends analyze index index k x request fault (all_stays index)
    (λ other.
    let unread = c.in_err-query.ensures.err other in
    let none = subst (λ m. query_in m.schema d ≡ None) (sym shadow.made) (subst (λ fields. query_in fields d ≡ None) c.schema.ensures unread.1) in
    subst (λ e. steps.index_step k x request ≡ steps.refusing e x) (sym unread.0) (unread_count k x d ready none)))
