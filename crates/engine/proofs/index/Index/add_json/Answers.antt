use Rattle.std.proofs.Common.{Err, None, Ok, Some, ap, false, inl, refl, sym, subst, ◌∙◌, ◌≡◌, ◌≢◌}
use Rattle.std.proofs.lemmas.Result.{IfOk-weaker}
use Rattle.std.specs.Result.{result_err}
use Rattle.definitions.specs.Calls as calls
use Rattle.definitions.specs.Reading.{read_data, read_json}
use Rattle.definitions.specs.Values.{Document}
use Rattle.definitions.specs.declared.fault.Fault.TheVariants as faults
use Rattle.index_state.proofs.Outcomes.{err_no_limit, err_same, own_refuses, status_refuses}
use Rattle.definitions.proofs.Lists.{err_map}
use Rattle.index_state.proofs.Shadows.{not_ok, on_err, on_err as any_refusal, not_ok as refused_no_ok}
use Rattle.index_state.specs.Standing.{Stands}
use Rattle.engine.specs.Indexes.{AddPasses, HasLongSlot}
use Rattle.engine.proofs.Adding.{adds_json, adds_value, as_other, early_no_limit, no_limit, no_text_is, same_refusal, text_is, unread_left}
use Rattle.index_file.proofs.ErrorsKept.{err_has}
use Rattle.serde_json.specs.View.{view}
use Rattle.engine.proofs.index.Index.add_json.Goals as goal

pub returns-in_err-check_writer-clause-left : goal.returns-in_err-check_writer-clause-left
returns-in_err-check_writer-clause-left g c k x s =
    let call = calls.add_json c.args.text.now in
    let fault = c.in_err-check_writer.field-0.0 in
    let refuses = ap (λ status. calls.status_fault status false) s.status ∙ sym c.check_writer.ensures.value ∙ ap result_err c.in_err-check_writer.was in
    subst (λ r. (y : calls.Index) × calls.Leaves k x call r y × Stands g.A.Analyzer.analyze c.args.self.now.index_state k y) (err_same c.from_residual.result fault c.from_residual.ensures.1)
    (x, calls.refused fault (status_refuses k x call fault refuses), s)

pub returns-in_err-check_writer-clause-exact : goal.returns-in_err-check_writer-clause-exact
returns-in_err-check_writer-clause-exact g c k x s =
    let call = calls.add_json c.args.text.now in
    let fault = c.in_err-check_writer.field-0.0 in
    let refuses = ap (λ status. calls.status_fault status false) s.status ∙ sym c.check_writer.ensures.value ∙ ap result_err c.in_err-check_writer.was in
    err_has c.from_residual.result fault (λ f. f ≢ faults.OutOfMemory → f ≢ faults.Limit → calls.call_fault k x call ≡ Some f) c.from_residual.ensures.1 (λ memory limit. status_refuses k x call fault refuses)

pub returns-in_err-json-clause-left : goal.returns-in_err-json-clause-left
returns-in_err-json-clause-left g c k x s =
    let text = c.args.text.now in
    let call = calls.add_json text in
    let old = c.args.self.now.index_state in
    let fault = c.in_err-json.field-0.0 in
    let none = ap (λ status. calls.status_fault status false) s.status ∙ sym c.check_writer.ensures.value ∙ ap result_err c.in_ok-check_writer.was in
    let own : fault ≢ faults.OutOfMemory → calls.own_fault k x.state call ≡ Some fault =
    λ other. ap result_err (no_text_is k.schema text (c.in_err-json.ensures.err other).1) ∙ ap Some (sym (c.in_err-json.ensures.err other).0) in
    subst (λ r. (y : calls.Index) × calls.Leaves k x call r y × Stands g.A.Analyzer.analyze old k y) (err_same c.from_residual-in_err-json.result fault c.from_residual-in_err-json.ensures.1)
    (x, unread_left k x call fault (adds_json text) none own, s)

pub returns-in_err-json-clause-exact : goal.returns-in_err-json-clause-exact
returns-in_err-json-clause-exact g c k x s =
    let text = c.args.text.now in
    let call = calls.add_json text in
    let old = c.args.self.now.index_state in
    let fault = c.in_err-json.field-0.0 in
    let none = ap (λ status. calls.status_fault status false) s.status ∙ sym c.check_writer.ensures.value ∙ ap result_err c.in_ok-check_writer.was in
    let own : fault ≢ faults.OutOfMemory → calls.own_fault k x.state call ≡ Some fault =
    λ other. ap result_err (no_text_is k.schema text (c.in_err-json.ensures.err other).1) ∙ ap Some (sym (c.in_err-json.ensures.err other).0) in
    err_has c.from_residual-in_err-json.result fault (λ f. f ≢ faults.OutOfMemory → f ≢ faults.Limit → calls.call_fault k x call ≡ Some f) c.from_residual-in_err-json.ensures.1 (λ memory limit. own_refuses k x call none ∙ own memory)

pub returns-clause-left : goal.returns-clause-left
returns-clause-left g c k x s =
    let text = c.args.text.now in
    let d = view c.in_ok-json.json in
    let same = text_is k.schema text d c.in_ok-json.ensures.ok in
    let left = c.add_value.ensures.left k x s in
    (left.0, as_other k x (calls.add_value d) (calls.add_json text) (adds_value d) (adds_json text) (ap result_err same) (ap (λ r. calls.after_document r x.state) same) left.1, left.2)

pub returns-clause-exact : goal.returns-clause-exact
returns-clause-exact g c k x s =
    let text = c.args.text.now in
    let d = view c.in_ok-json.json in
    let is = text_is k.schema text d c.in_ok-json.ensures.ok in
    let same = same_refusal k x (calls.add_value d) (calls.add_json text) (adds_value d) (adds_json text) (ap result_err is) (ap (λ r. calls.after_document r x.state) is) in
    err_map c.add_value.result (λ f. f ≢ faults.OutOfMemory → f ≢ faults.Limit → calls.call_fault k x (calls.add_value d) ≡ Some f) (λ f. f ≢ faults.OutOfMemory → f ≢ faults.Limit → calls.call_fault k x (calls.add_json text) ≡ Some f)
    (λ f refused memory limit. same ∙ refused memory limit) (c.add_value.ensures.exact k x s)

pub returns-in_err-check_writer-clause-limit : goal.returns-in_err-check_writer-clause-limit
returns-in_err-check_writer-clause-limit g c k x s =
    let call = calls.add_json c.args.text.now in
    let fault = c.in_err-check_writer.field-0.0 in
    let refuses = ap (λ status. calls.status_fault status false) s.status ∙ sym c.check_writer.ensures.value ∙ ap result_err c.in_err-check_writer.was in
    err_no_limit c.from_residual.result fault _ c.from_residual.ensures.1 (no_limit k x call fault (status_refuses k x call fault refuses))

pub returns-in_err-json-clause-limit : goal.returns-in_err-json-clause-limit
returns-in_err-json-clause-limit g c k x s =
    let text = c.args.text.now in
    let call = calls.add_json text in
    let fault = c.in_err-json.field-0.0 in
    let none = ap (λ status. calls.status_fault status false) s.status ∙ sym c.check_writer.ensures.value ∙ ap result_err c.in_ok-check_writer.was in
    let own : fault ≢ faults.OutOfMemory → calls.own_fault k x.state call ≡ Some fault =
    λ other. ap result_err (no_text_is k.schema text (c.in_err-json.ensures.err other).1) ∙ ap Some (sym (c.in_err-json.ensures.err other).0) in
    err_no_limit c.from_residual-in_err-json.result fault _ c.from_residual-in_err-json.ensures.1 (early_no_limit k x call fault (λ memory. own_refuses k x call none ∙ own memory))

pub returns-clause-limit : goal.returns-clause-limit
returns-clause-limit g c k x s =
    let text = c.args.text.now in
    let d = view c.in_ok-json.json in
    let is : read_json k.schema text ≡ read_data k.schema d = ap (λ o. elim o [ None ↦ Err faults.NotAnObject | Some v ↦ read_data k.schema v ]) c.in_ok-json.ensures.ok in
    err_map c.add_value.result (λ f. f ≡ faults.Limit → (doc : Document) × (read_data k.schema d ≡ Ok doc) × AddPasses k x.state c.args.self.now doc) (λ f. f ≡ faults.Limit → (doc : Document) × (read_json k.schema text ≡ Ok doc) × AddPasses k x.state c.args.self.now doc)
    (λ f passes limit. let p = passes limit in (p.0, is ∙ p.1, p.2)) (c.add_value.ensures.limit k x s)

pub returns-in_err-check_writer-clause-short : goal.returns-in_err-check_writer-clause-short
returns-in_err-check_writer-clause-short g c k x doc s is = refused_no_ok c.from_residual.result c.in_err-check_writer.field-0.0 (¬ HasLongSlot c.args.self.now doc) c.from_residual.ensures.1

pub returns-in_err-check_writer-clause-long : goal.returns-in_err-check_writer-clause-long
returns-in_err-check_writer-clause-long g c k x doc s is long = any_refusal c.from_residual.result _ s

pub returns-in_err-json-clause-short : goal.returns-in_err-json-clause-short
returns-in_err-json-clause-short g c k x doc s is = refused_no_ok c.from_residual-in_err-json.result c.in_err-json.field-0.0 (¬ HasLongSlot c.args.self.now doc) c.from_residual-in_err-json.ensures.1

pub returns-in_err-json-clause-long : goal.returns-in_err-json-clause-long
returns-in_err-json-clause-long g c k x doc s is long = any_refusal c.from_residual-in_err-json.result _ s

pub returns-clause-short : goal.returns-clause-short
returns-clause-short g c k x doc s is =
    let d = view c.in_ok-json.json in
    let read : read_json k.schema c.args.text.now ≡ read_data k.schema d = ap (λ o. elim o [ None ↦ Err faults.NotAnObject | Some v ↦ read_data k.schema v ]) c.in_ok-json.ensures.ok in
    c.add_value.ensures.short k x doc s (sym read ∙ is)

pub returns-clause-long : goal.returns-clause-long
returns-clause-long g c k x doc s is long =
    let d = view c.in_ok-json.json in
    let read : read_json k.schema c.args.text.now ≡ read_data k.schema d = ap (λ o. elim o [ None ↦ Err faults.NotAnObject | Some v ↦ read_data k.schema v ]) c.in_ok-json.ensures.ok in
    c.add_value.ensures.long k x doc s (sym read ∙ is) long

pub returns-in_err-check_writer-clause-within : goal.returns-in_err-check_writer-clause-within
returns-in_err-check_writer-clause-within g c k x doc s is = refused_no_ok c.from_residual.result c.in_err-check_writer.field-0.0 _ c.from_residual.ensures.1

pub returns-in_err-check_writer-clause-closed : goal.returns-in_err-check_writer-clause-closed
returns-in_err-check_writer-clause-closed g c k x doc s is =
    let call = calls.add_json c.args.text.now in
    let fault = c.in_err-check_writer.field-0.0 in
    let refuses = ap (λ status. calls.status_fault status false) s.status ∙ sym c.check_writer.ensures.value ∙ ap result_err c.in_err-check_writer.was in
    err_no_limit c.from_residual.result fault _ c.from_residual.ensures.1 (no_limit k x call fault (status_refuses k x call fault refuses))

pub returns-in_err-json-clause-within : goal.returns-in_err-json-clause-within
returns-in_err-json-clause-within g c k x doc s is = refused_no_ok c.from_residual-in_err-json.result c.in_err-json.field-0.0 _ c.from_residual-in_err-json.ensures.1

pub returns-in_err-json-clause-closed : goal.returns-in_err-json-clause-closed
returns-in_err-json-clause-closed g c k x doc s is =
    let text = c.args.text.now in
    let call = calls.add_json text in
    let fault = c.in_err-json.field-0.0 in
    let none = ap (λ status. calls.status_fault status false) s.status ∙ sym c.check_writer.ensures.value ∙ ap result_err c.in_ok-check_writer.was in
    let own : fault ≢ faults.OutOfMemory → calls.own_fault k x.state call ≡ Some fault =
    λ other. ap result_err (no_text_is k.schema text (c.in_err-json.ensures.err other).1) ∙ ap Some (sym (c.in_err-json.ensures.err other).0) in
    err_no_limit c.from_residual-in_err-json.result fault _ c.from_residual-in_err-json.ensures.1 (early_no_limit k x call fault (λ memory. own_refuses k x call none ∙ own memory))

pub returns-clause-within : goal.returns-clause-within
returns-clause-within g c k x doc s is =
    let d = view c.in_ok-json.json in
    let read : read_json k.schema c.args.text.now ≡ read_data k.schema d = ap (λ o. elim o [ None ↦ Err faults.NotAnObject | Some v ↦ read_data k.schema v ]) c.in_ok-json.ensures.ok in
    c.add_value.ensures.within k x doc s (sym read ∙ is)

pub returns-clause-closed : goal.returns-clause-closed
returns-clause-closed g c k x doc s is =
    let d = view c.in_ok-json.json in
    let read : read_json k.schema c.args.text.now ≡ read_data k.schema d = ap (λ o. elim o [ None ↦ Err faults.NotAnObject | Some v ↦ read_data k.schema v ]) c.in_ok-json.ensures.ok in
    c.add_value.ensures.closed k x doc s (sym read ∙ is)

-- ---- of any index

pub returns-in_err-check_writer-clause-refused : goal.returns-in_err-check_writer-clause-refused
returns-in_err-check_writer-clause-refused g c k x s =
    let call = calls.add_json c.args.text.now in
    let fault = c.in_err-check_writer.field-0.0 in
    let refuses = ap (λ status. calls.status_fault status false) s.status ∙ sym c.check_writer.ensures.value ∙ ap result_err c.in_err-check_writer.was in
    err_has c.from_residual.result fault (λ f. f ≢ faults.OutOfMemory → f ≢ faults.Limit → calls.call_fault k x call ≡ Some f) c.from_residual.ensures.1 (λ memory limit. status_refuses k x call fault refuses)

pub returns-in_err-check_writer-clause-admitted : goal.returns-in_err-check_writer-clause-admitted
returns-in_err-check_writer-clause-admitted g c k x s =
    not_ok c.from_residual.result c.in_err-check_writer.field-0.0 _ c.from_residual.ensures.1

pub returns-in_err-check_writer-clause-same : goal.returns-in_err-check_writer-clause-same
returns-in_err-check_writer-clause-same g c =
    err_has c.from_residual.result c.in_err-check_writer.field-0.0 _ c.from_residual.ensures.1 (λ memory limit. record { made = record { analyzer = refl; schema = refl; settings = refl }; members = refl; waiting = refl; status = refl })

pub returns-in_err-check_writer-clause-stopped : goal.returns-in_err-check_writer-clause-stopped
returns-in_err-check_writer-clause-stopped g c =
    on_err c.from_residual.result _ (inl (record { made = record { analyzer = refl; schema = refl; settings = refl }; members = refl; waiting = refl; status = refl }))

pub returns-in_err-check_writer-clause-ready : goal.returns-in_err-check_writer-clause-ready
returns-in_err-check_writer-clause-ready g c =
    not_ok c.from_residual.result c.in_err-check_writer.field-0.0 _ c.from_residual.ensures.1

pub returns-in_err-check_writer-clause-same_beside : goal.returns-in_err-check_writer-clause-same_beside
returns-in_err-check_writer-clause-same_beside g c doc is long =
    on_err c.from_residual.result _ (record { made = record { analyzer = refl; schema = refl; settings = refl }; members = refl; waiting = refl; status = refl })

pub returns-in_err-check_writer-clause-waits : goal.returns-in_err-check_writer-clause-waits
returns-in_err-check_writer-clause-waits g c doc is =
    not_ok c.from_residual.result c.in_err-check_writer.field-0.0 _ c.from_residual.ensures.1

pub returns-in_err-json-clause-refused : goal.returns-in_err-json-clause-refused
returns-in_err-json-clause-refused g c k x s =
    let text = c.args.text.now in
    let call = calls.add_json text in
    let fault = c.in_err-json.field-0.0 in
    let none = ap (λ status. calls.status_fault status false) s.status ∙ sym c.check_writer.ensures.value ∙ ap result_err c.in_ok-check_writer.was in
    let own : fault ≢ faults.OutOfMemory → calls.own_fault k x.state call ≡ Some fault =
    λ other. ap result_err (no_text_is k.schema text (c.in_err-json.ensures.err other).1) ∙ ap Some (sym (c.in_err-json.ensures.err other).0) in
    err_has c.from_residual-in_err-json.result fault (λ f. f ≢ faults.OutOfMemory → f ≢ faults.Limit → calls.call_fault k x call ≡ Some f) c.from_residual-in_err-json.ensures.1 (λ memory limit. own_refuses k x call none ∙ own memory)

pub returns-in_err-json-clause-admitted : goal.returns-in_err-json-clause-admitted
returns-in_err-json-clause-admitted g c k x s =
    not_ok c.from_residual-in_err-json.result c.in_err-json.field-0.0 _ c.from_residual-in_err-json.ensures.1

pub returns-in_err-json-clause-same : goal.returns-in_err-json-clause-same
returns-in_err-json-clause-same g c =
    err_has c.from_residual-in_err-json.result c.in_err-json.field-0.0 _ c.from_residual-in_err-json.ensures.1 (λ memory limit. record { made = record { analyzer = refl; schema = refl; settings = refl }; members = refl; waiting = refl; status = refl })

pub returns-in_err-json-clause-stopped : goal.returns-in_err-json-clause-stopped
returns-in_err-json-clause-stopped g c =
    on_err c.from_residual-in_err-json.result _ (inl (record { made = record { analyzer = refl; schema = refl; settings = refl }; members = refl; waiting = refl; status = refl }))

pub returns-in_err-json-clause-ready : goal.returns-in_err-json-clause-ready
returns-in_err-json-clause-ready g c =
    not_ok c.from_residual-in_err-json.result c.in_err-json.field-0.0 _ c.from_residual-in_err-json.ensures.1

pub returns-in_err-json-clause-same_beside : goal.returns-in_err-json-clause-same_beside
returns-in_err-json-clause-same_beside g c doc is long =
    on_err c.from_residual-in_err-json.result _ (record { made = record { analyzer = refl; schema = refl; settings = refl }; members = refl; waiting = refl; status = refl })

pub returns-in_err-json-clause-waits : goal.returns-in_err-json-clause-waits
returns-in_err-json-clause-waits g c doc is =
    not_ok c.from_residual-in_err-json.result c.in_err-json.field-0.0 _ c.from_residual-in_err-json.ensures.1

pub returns-clause-refused : goal.returns-clause-refused
returns-clause-refused g c k x s =
    let text = c.args.text.now in
    let d = view c.in_ok-json.json in
    let is = text_is k.schema text d c.in_ok-json.ensures.ok in
    let same = same_refusal k x (calls.add_value d) (calls.add_json text) (adds_value d) (adds_json text) (ap result_err is) (ap (λ r. calls.after_document r x.state) is) in
    err_map c.add_value.result (λ f. f ≢ faults.OutOfMemory → f ≢ faults.Limit → calls.call_fault k x (calls.add_value d) ≡ Some f) (λ f. f ≢ faults.OutOfMemory → f ≢ faults.Limit → calls.call_fault k x (calls.add_json text) ≡ Some f)
    (λ f refused memory limit. same ∙ refused memory limit) (c.add_value.ensures.refused k x s)

pub returns-clause-admitted : goal.returns-clause-admitted
returns-clause-admitted g c k x s =
    let text = c.args.text.now in
    let d = view c.in_ok-json.json in
    let is = text_is k.schema text d c.in_ok-json.ensures.ok in
    let same = same_refusal k x (calls.add_value d) (calls.add_json text) (adds_value d) (adds_json text) (ap result_err is) (ap (λ r. calls.after_document r x.state) is) in
    IfOk-weaker c.add_value.result _ _ (λ done taken. same ∙ taken) (c.add_value.ensures.admitted k x s)

pub returns-clause-same_beside : goal.returns-clause-same_beside
returns-clause-same_beside g c doc is long =
    let schema = c.args.self.now.index_state.schema in
    let d = view c.in_ok-json.json in
    let read : read_json schema c.args.text.now ≡ read_data schema d = ap (λ o. elim o [ None ↦ Err faults.NotAnObject | Some v ↦ read_data schema v ]) c.in_ok-json.ensures.ok in
    c.add_value.ensures.same_beside doc (sym read ∙ is) long

pub returns-clause-waits : goal.returns-clause-waits
returns-clause-waits g c doc is =
    let schema = c.args.self.now.index_state.schema in
    let d = view c.in_ok-json.json in
    let read : read_json schema c.args.text.now ≡ read_data schema d = ap (λ o. elim o [ None ↦ Err faults.NotAnObject | Some v ↦ read_data schema v ]) c.in_ok-json.ensures.ok in
    c.add_value.ensures.waits doc (sym read ∙ is)
