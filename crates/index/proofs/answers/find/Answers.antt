use Rattle.std.proofs.Common.{false, None, Some, true, true≢false, ap, map, subst, sym, ◌∙◌, ◌≡◌, ◌≢◌, List}
use Rattle.std.specs.Result.{result_err}
use Rattle.definitions.specs.QueryGrammar.{query_in}
use Rattle.definitions.specs.Calls as calls
use Rattle.definitions.specs.Replies.{hits_reply}
use Rattle.definitions.specs.Requests as requests
use Rattle.definitions.specs.Scanning as scanning
use Rattle.definitions.specs.State.{committed}
use Rattle.definitions.specs.Step as steps
use Rattle.definitions.specs.declared.fault.Fault.TheVariants as faults
use Rattle.definitions.proofs.Steps.{refused_call}
use Rattle.engine.specs.HandedOn.{scored, shown_hit}
use Rattle.engine.specs.Indexes.{schema_of}
use Rattle.query_trees.specs.Queries.{query_of}
use Rattle.index_file.proofs.ErrorsKept.{err_has}
use Rattle.index.proofs.Answering.{read_search, search_answered, unread_search}
use Rattle.definitions.proofs.Lists.{err_map as err_weaker, IfOk-map as ok_weaker}
use Rattle.serde_json.specs.View.{view}
use Rattle.definitions.specs.Replying.{stops}
use Rattle.index.proofs.Causes.{call_goes_on, status_goes_on}
use Rattle.index.specs.Outcomes.{Ends}
use Rattle.index.proofs.Endings.{all_stays, early_ends, search_ends, told_error}
use Rattle.reply_texts.specs.ToldHits.{told}
use Rattle.index.proofs.answers.find.Goals as goal

pub returns-clause-ok : goal.returns-clause-ok
returns-clause-ok g c k x s =
    let d = view c.args.query.now in
    let q = query_of c.in_ok-query.query in
    let read = subst (λ m. query_in m.schema d ≡ Some q) (sym s.made) (subst (λ fields. query_in fields d ≡ Some q) c.schema.ensures c.in_ok-query.ensures.ok) in
    let hs = scanning.scan k.schema k.analyze k.similarity (committed x.state) q c.args.k in
    let show = shown_hit (schema_of c.args.index.now) in
    ok_weaker c.search_stored.result
    (λ found. (calls.call_fault k x (calls.search_best q c.args.k) ≡ None) × (map show found.0.items ≡ map scored hs))
    (λ found. (hits : List scanning.Hit) × (map show found.0.items ≡ map scored hits) × (steps.index_step k x (requests.search_docs d c.args.k) ≡ (hits_reply hits, x)))
    (λ found p. (hs, p.1, search_answered k x d c.args.k q read p.0))
    (c.search_stored.ensures.ok k x s)

pub returns-clause-err : goal.returns-clause-err
returns-clause-err g c k x s =
    let d = view c.args.query.now in
    let q = query_of c.in_ok-query.query in
    let call = calls.search_best q c.args.k in
    let read = subst (λ m. query_in m.schema d ≡ Some q) (sym s.made) (subst (λ fields. query_in fields d ≡ Some q) c.schema.ensures c.in_ok-query.ensures.ok) in
    err_weaker c.search_stored.result
    (λ fault. fault ≢ faults.OutOfMemory → calls.call_fault k x call ≡ Some fault)
    (λ fault. fault ≢ faults.OutOfMemory → steps.index_step k x (requests.search_docs d c.args.k) ≡ steps.refusing fault x)
    (λ fault refused other. refused_call k x (requests.search_docs d c.args.k) call fault (read_search k d c.args.k q read) (refused other))
    (c.search_stored.ensures.err k x s)

-- a closed index refuses before the query is read
pub returns-in_err-check_open-clause-err : goal.returns-in_err-check_open-clause-err
returns-in_err-check_open-clause-err g c k x s =
    let request = requests.search_docs (view c.args.query.now) c.args.k in
    let fault = c.in_err-check_open.field-0.0 in
    let closed : calls.status_fault x.status true ≡ Some fault = sym (c.check_open.ensures.stands k x s) ∙ ap result_err c.in_err-check_open.was in
    err_has c.from_residual.result fault (λ e. e ≢ faults.OutOfMemory → steps.index_step k x request ≡ steps.refusing e x) c.from_residual.ensures.1
    (λ other. ap (λ o. steps.refused_or o x (steps.call_step k x (steps.call_in k.schema request))) closed)

pub returns-in_err-check_open-clause-goes_on : goal.returns-in_err-check_open-clause-goes_on
returns-in_err-check_open-clause-goes_on g c k x s =
    let fault = c.in_err-check_open.field-0.0 in
    let closed : calls.status_fault x.status true ≡ Some fault = sym (c.check_open.ensures.stands k x s) ∙ ap result_err c.in_err-check_open.was in
    err_has c.from_residual.result fault (λ e. e ≢ faults.OutOfMemory → stops e ≡ false) c.from_residual.ensures.1 (λ other. status_goes_on x.status true fault closed)

pub returns-in_err-query-clause-err : goal.returns-in_err-query-clause-err
returns-in_err-query-clause-err g c k x s =
    let d = view c.args.query.now in
    let fault = c.in_err-query.field-0.0 in
    let ready : calls.status_fault x.status true ≡ None = sym (c.check_open.ensures.stands k x s) ∙ ap result_err c.in_ok-check_open.was in
    err_has c.from_residual-in_err-query.result fault (λ e. e ≢ faults.OutOfMemory → steps.index_step k x (requests.search_docs d c.args.k) ≡ steps.refusing e x) c.from_residual-in_err-query.ensures.1
    (λ other.
    let unread = c.in_err-query.ensures.err other in
    let none = subst (λ m. query_in m.schema d ≡ None) (sym s.made) (subst (λ fields. query_in fields d ≡ None) c.schema.ensures unread.1) in
    subst (λ e. steps.index_step k x (requests.search_docs d c.args.k) ≡ steps.refusing e x) (sym unread.0) (unread_search k x d c.args.k ready none))

pub returns-in_err-query-clause-goes_on : goal.returns-in_err-query-clause-goes_on
returns-in_err-query-clause-goes_on g c k x s =
    let fault = c.in_err-query.field-0.0 in
    err_has c.from_residual-in_err-query.result fault (λ e. e ≢ faults.OutOfMemory → stops e ≡ false) c.from_residual-in_err-query.ensures.1 (λ other. ap stops ((c.in_err-query.ensures.err other).0))

pub returns-clause-goes_on : goal.returns-clause-goes_on
returns-clause-goes_on g c k x s =
    let q = query_of c.in_ok-query.query in
    let call = calls.search_best q c.args.k in
    err_weaker c.search_stored.result
    (λ fault. fault ≢ faults.OutOfMemory → calls.call_fault k x call ≡ Some fault)
    (λ fault. fault ≢ faults.OutOfMemory → stops fault ≡ false)
    (λ fault refused other. call_goes_on k x call fault (refused other))
    (c.search_stored.ensures.err k x s)

pub returns-in_err-check_open-clause-own : goal.returns-in_err-check_open-clause-own
returns-in_err-check_open-clause-own g c k x s =
    let fault = c.in_err-check_open.field-0.0 in
    let closed : calls.status_fault x.status true ≡ Some fault = sym (c.check_open.ensures.stands k x s) ∙ ap result_err c.in_err-check_open.was in
    err_has c.from_residual.result fault (λ e. e ≡ faults.OutOfMemory → calls.status_fault x.status true ≡ None) c.from_residual.ensures.1
    (λ memory. absurd (true≢false (sym (ap stops memory) ∙ status_goes_on x.status true fault closed)))

pub returns-in_err-query-clause-own : goal.returns-in_err-query-clause-own
returns-in_err-query-clause-own g c k x s =
    let ready : calls.status_fault x.status true ≡ None = sym (c.check_open.ensures.stands k x s) ∙ ap result_err c.in_ok-check_open.was in
    err_has c.from_residual-in_err-query.result c.in_err-query.field-0.0 (λ e. e ≡ faults.OutOfMemory → calls.status_fault x.status true ≡ None) c.from_residual-in_err-query.ensures.1 (λ memory. ready)

pub returns-clause-own : goal.returns-clause-own
returns-clause-own g c k x s =
    let ready : calls.status_fault x.status true ≡ None = sym (c.check_open.ensures.stands k x s) ∙ ap result_err c.in_ok-check_open.was in
    err_weaker c.search_stored.result _ _ (λ fault told memory. ready) (c.search_stored.ensures.own k x s)

-- ---- an index of whatever documents

pub returns-clause-ends : goal.returns-clause-ends
returns-clause-ends g c k x shadow =
    let d = view c.args.query.now in
    let q = query_of c.in_ok-query.query in
    let read = subst (λ m. query_in m.schema d ≡ Some q) (sym shadow.made) (subst (λ fields. query_in fields d ≡ Some q) c.schema.ensures c.in_ok-query.ensures.ok) in
    search_ends g.A.Analyzer.analyze c.args.index.now c.search_stored.new.self k x d c.args.k (query_of c.in_ok-query.query) c.search_stored.result (λ found. map (shown_hit (schema_of c.args.index.now)) found.0.items) read c.search_stored.ensures.answered (c.search_stored.ensures.refused k x shadow) (c.search_stored.ensures.admitted k x shadow) (c.search_stored.ensures.same, c.search_stored.ensures.file)

pub returns-in_err-check_open-clause-ends : goal.returns-in_err-check_open-clause-ends
returns-in_err-check_open-clause-ends g c k x shadow =
    let analyze = g.A.Analyzer.analyze in
    let index = c.args.index.now in
    let request = requests.search_docs (view c.args.query.now) c.args.k in
    let fault = c.in_err-check_open.field-0.0 in
    let closed : calls.status_fault x.status true ≡ Some fault = ap (λ s. calls.status_fault s true) shadow.status ∙ sym c.check_open.ensures.status ∙ ap result_err c.in_err-check_open.was in
    told_error c.from_residual.result (λ found. hits_reply (map told (map (shown_hit (schema_of index)) found.0.items))) fault (Ends analyze index index k x request) c.from_residual.ensures.1
    (early_ends analyze index index k x request fault (all_stays index) (λ other. ap (λ o. steps.refused_or o x (steps.call_step k x (steps.call_in k.schema request))) closed))

pub returns-in_err-query-clause-ends : goal.returns-in_err-query-clause-ends
returns-in_err-query-clause-ends g c k x shadow =
    let analyze = g.A.Analyzer.analyze in
    let index = c.args.index.now in
    let d = view c.args.query.now in
    let request = requests.search_docs (view c.args.query.now) c.args.k in
    let fault = c.in_err-query.field-0.0 in
    let ready : calls.status_fault x.status true ≡ None = ap (λ s. calls.status_fault s true) shadow.status ∙ sym c.check_open.ensures.status ∙ ap result_err c.in_ok-check_open.was in
    told_error c.from_residual-in_err-query.result (λ found. hits_reply (map told (map (shown_hit (schema_of index)) found.0.items))) fault (Ends analyze index index k x request) c.from_residual-in_err-query.ensures.1
    (early_ends analyze index index k x request fault (all_stays index)
    (λ other.
    let unread = c.in_err-query.ensures.err other in
    let none = subst (λ m. query_in m.schema d ≡ None) (sym shadow.made) (subst (λ fields. query_in fields d ≡ None) c.schema.ensures unread.1) in
    subst (λ e. steps.index_step k x request ≡ steps.refusing e x) (sym unread.0) (unread_search k x d c.args.k ready none)))
