use Rattle.std.proofs.Common.{false, None, Some, ap, subst, sym, ◌∙◌, ◌≡◌, ◌≢◌}
use Rattle.std.specs.Result.{result_err}
use Rattle.definitions.specs.Calls as calls
use Rattle.definitions.specs.Replying.{stops}
use Rattle.definitions.specs.Requests as requests
use Rattle.definitions.specs.Step as steps
use Rattle.definitions.specs.TermGrammar.{term_in}
use Rattle.definitions.specs.declared.fault.Fault.TheVariants as faults
use Rattle.definitions.proofs.Steps.{refused_call}
use Rattle.index_file.proofs.ErrorsKept.{err_has}
use Rattle.index.proofs.Answering.{deletion_left, deletion_taken, read_deletion, unread_deletion}
use Rattle.definitions.proofs.Lists.{err_map as err_weaker}
use Rattle.index.proofs.Causes.{call_goes_on, status_goes_on}
use Rattle.serde_json.specs.View.{view}
use Rattle.index.specs.Outcomes.{Ends}
use Rattle.index.proofs.Endings.{all_stays, delete_ends, early_ends, told_error}
use Rattle.definitions.specs.Replies.{ok_reply}
use Rattle.index.proofs.answers.delete.Goals as goal

pub returns-clause-ok : goal.returns-clause-ok
returns-clause-ok g c k x s =
    let d = view c.args.term.now in
    let read = subst (λ m. term_in m.schema d ≡ Some c.in_ok-term.term) (sym s.made) (subst (λ fields. term_in fields d ≡ Some c.in_ok-term.term) c.schema.ensures c.in_ok-term.ensures.ok) in
    deletion_taken g.A.Analyzer.analyze c.delete_term.new.self k x d c.in_ok-term.term c.delete_term.result read (c.delete_term.ensures.left k x s)

pub returns-clause-err : goal.returns-clause-err
returns-clause-err g c k x s =
    let d = view c.args.term.now in
    let term = c.in_ok-term.term in
    let read = subst (λ m. term_in m.schema d ≡ Some term) (sym s.made) (subst (λ fields. term_in fields d ≡ Some term) c.schema.ensures c.in_ok-term.ensures.ok) in
    err_weaker c.delete_term.result
    (λ fault. fault ≢ faults.OutOfMemory → calls.call_fault k x (calls.delete_term term) ≡ Some fault)
    (λ fault. fault ≢ faults.OutOfMemory → steps.index_step k x (requests.delete_docs d) ≡ steps.refusing fault x)
    (λ fault refused other. refused_call k x (requests.delete_docs d) (calls.delete_term term) fault (read_deletion k d term read) (refused other))
    (c.delete_term.ensures.exact k x s)

pub returns-clause-left : goal.returns-clause-left
returns-clause-left g c k x s = deletion_left g.A.Analyzer.analyze c.delete_term.new.self k x c.in_ok-term.term c.delete_term.result (c.delete_term.ensures.left k x s)

pub returns-clause-goes_on : goal.returns-clause-goes_on
returns-clause-goes_on g c k x s =
    let call = calls.delete_term c.in_ok-term.term in
    err_weaker c.delete_term.result
    (λ fault. fault ≢ faults.OutOfMemory → calls.call_fault k x call ≡ Some fault)
    (λ fault. fault ≢ faults.OutOfMemory → stops fault ≡ false)
    (λ fault refused other. call_goes_on k x call fault (refused other))
    (c.delete_term.ensures.exact k x s)

-- an index without its writer refuses before the term is read
pub returns-in_err-check_writer-clause-err : goal.returns-in_err-check_writer-clause-err
returns-in_err-check_writer-clause-err g c k x s =
    let request = requests.delete_docs (view c.args.term.now) in
    let fault = c.in_err-check_writer.field-0.0 in
    let closed : calls.status_fault x.status false ≡ Some fault = sym (c.check_writer.ensures.stands k x s) ∙ ap result_err c.in_err-check_writer.was in
    err_has c.from_residual.result fault (λ e. e ≢ faults.OutOfMemory → steps.index_step k x request ≡ steps.refusing e x) c.from_residual.ensures.1
    (λ other. ap (λ o. steps.refused_or o x (steps.call_step k x (steps.call_in k.schema request))) closed)

pub returns-in_err-check_writer-clause-goes_on : goal.returns-in_err-check_writer-clause-goes_on
returns-in_err-check_writer-clause-goes_on g c k x s =
    let fault = c.in_err-check_writer.field-0.0 in
    let closed : calls.status_fault x.status false ≡ Some fault = sym (c.check_writer.ensures.stands k x s) ∙ ap result_err c.in_err-check_writer.was in
    err_has c.from_residual.result fault (λ e. e ≢ faults.OutOfMemory → stops e ≡ false) c.from_residual.ensures.1 (λ other. status_goes_on x.status false fault closed)

pub returns-in_err-term-clause-err : goal.returns-in_err-term-clause-err
returns-in_err-term-clause-err g c k x s =
    let d = view c.args.term.now in
    let fault = c.in_err-term.field-0.0 in
    let ready : calls.status_fault x.status false ≡ None = sym (c.check_writer.ensures.stands k x s) ∙ ap result_err c.in_ok-check_writer.was in
    err_has c.from_residual-in_err-term.result fault (λ e. e ≢ faults.OutOfMemory → steps.index_step k x (requests.delete_docs d) ≡ steps.refusing e x) c.from_residual-in_err-term.ensures.1
    (λ other.
    let unread = c.in_err-term.ensures.err other in
    let none = subst (λ m. term_in m.schema d ≡ None) (sym s.made) (subst (λ fields. term_in fields d ≡ None) c.schema.ensures unread.1) in
    subst (λ e. steps.index_step k x (requests.delete_docs d) ≡ steps.refusing e x) (sym unread.0) (unread_deletion k x d ready none))

pub returns-in_err-term-clause-goes_on : goal.returns-in_err-term-clause-goes_on
returns-in_err-term-clause-goes_on g c k x s =
    let fault = c.in_err-term.field-0.0 in
    err_has c.from_residual-in_err-term.result fault (λ e. e ≢ faults.OutOfMemory → stops e ≡ false) c.from_residual-in_err-term.ensures.1 (λ other. ap stops ((c.in_err-term.ensures.err other).0))

-- ---- an index of whatever documents

pub returns-clause-ends : goal.returns-clause-ends
returns-clause-ends g c k x shadow =
    let d = view c.args.term.now in
    let term = c.in_ok-term.term in
    let read = subst (λ m. term_in m.schema d ≡ Some term) (sym shadow.made) (subst (λ fields. term_in fields d ≡ Some term) c.schema.ensures c.in_ok-term.ensures.ok) in
    let delete = c.delete_term.ensures in
    delete_ends g.A.Analyzer.analyze c.args.index.now c.delete_term.new.self k x d term c.delete_term.result read (delete.refused k x shadow) (delete.admitted k x shadow) delete.same delete.ready delete.waits delete.file

pub returns-in_err-check_writer-clause-ends : goal.returns-in_err-check_writer-clause-ends
returns-in_err-check_writer-clause-ends g c k x shadow =
    let analyze = g.A.Analyzer.analyze in
    let index = c.args.index.now in
    let request = requests.delete_docs (view c.args.term.now) in
    let fault = c.in_err-check_writer.field-0.0 in
    let closed : calls.status_fault x.status false ≡ Some fault = ap (λ s. calls.status_fault s false) shadow.status ∙ sym c.check_writer.ensures.status ∙ ap result_err c.in_err-check_writer.was in
    told_error c.from_residual.result (λ done. ok_reply) fault (Ends analyze index index k x request) c.from_residual.ensures.1
    (early_ends analyze index index k x request fault (all_stays index) (λ other. ap (λ o. steps.refused_or o x (steps.call_step k x (steps.call_in k.schema request))) closed))

pub returns-in_err-term-clause-ends : goal.returns-in_err-term-clause-ends
returns-in_err-term-clause-ends g c k x shadow =
    let analyze = g.A.Analyzer.analyze in
    let index = c.args.index.now in
    let d = view c.args.term.now in
    let request = requests.delete_docs d in
    let fault = c.in_err-term.field-0.0 in
    let ready : calls.status_fault x.status false ≡ None = ap (λ s. calls.status_fault s false) shadow.status ∙ sym c.check_writer.ensures.status ∙ ap result_err c.in_ok-check_writer.was in
    told_error c.from_residual-in_err-term.result (λ done. ok_reply) fault (Ends analyze index index k x request) c.from_residual-in_err-term.ensures.1
    (early_ends analyze index index k x request fault (all_stays index)
    (λ other.
    let unread = c.in_err-term.ensures.err other in
    let none = subst (λ m. term_in m.schema d ≡ None) (sym shadow.made) (subst (λ fields. term_in fields d ≡ None) c.schema.ensures unread.1) in
    subst (λ e. steps.index_step k x request ≡ steps.refusing e x) (sym unread.0) (unread_deletion k x d ready none)))
