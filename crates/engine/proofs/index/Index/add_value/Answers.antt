use Rattle.std.proofs.Common.{Ok, Some, ap, false, inl, refl, sym, subst, ◌∙◌, ◌≡◌, ◌≢◌, IfErr, OnOk}
use Rattle.std.proofs.lemmas.Result.{IfOk-weaker}
use Rattle.std.specs.Result.{result_err}
use Rattle.definitions.specs.Calls as calls
use Rattle.definitions.specs.Reading.{read_data}
use Rattle.definitions.specs.Values.{Document}
use Rattle.definitions.specs.declared.fault.Fault.TheVariants as faults
use Rattle.document_indexer.specs.Indexed.{IsWithinLimits}
use Rattle.index_state.proofs.Outcomes.{err_no_limit, err_same, own_refuses, status_refuses}
use Rattle.definitions.proofs.Lists.{err_map}
use Rattle.index_state.proofs.Shadows.{not_ok, on_err, on_err as any_refusal, not_ok as refused_no_ok}
use Rattle.index_state.specs.Pending.{open_docs}
use Rattle.index_state.specs.Standing.{Stands, WaitsMore, state_of}
use Rattle.engine.specs.Indexes.{AddPasses, HasLongSlot}
use Rattle.engine.proofs.Adding.{adds_document, adds_value, as_other, early_no_limit, given_is, no_limit, one_document, same_refusal, unread_left}
use Rattle.index_file.proofs.ErrorsKept.{err_has}
use Rattle.serde_json.specs.View.{view}
use Rattle.engine.proofs.index.Index.add_value.Goals as goal

pub returns-in_err-check_writer-clause-left : goal.returns-in_err-check_writer-clause-left
returns-in_err-check_writer-clause-left g c k x s =
    let call = calls.add_value (view c.args.value.now) in
    let fault = c.in_err-check_writer.field-0.0 in
    let refuses = ap (λ status. calls.status_fault status false) s.status ∙ sym c.check_writer.ensures.value ∙ ap result_err c.in_err-check_writer.was in
    subst (λ r. (y : calls.Index) × calls.Leaves k x call r y × Stands g.A.Analyzer.analyze c.args.self.now.index_state k y) (err_same c.from_residual.result fault c.from_residual.ensures.1)
    (x, calls.refused fault (status_refuses k x call fault refuses), s)

pub returns-in_err-check_writer-clause-exact : goal.returns-in_err-check_writer-clause-exact
returns-in_err-check_writer-clause-exact g c k x s =
    let call = calls.add_value (view c.args.value.now) in
    let fault = c.in_err-check_writer.field-0.0 in
    let refuses = ap (λ status. calls.status_fault status false) s.status ∙ sym c.check_writer.ensures.value ∙ ap result_err c.in_err-check_writer.was in
    err_has c.from_residual.result fault (λ f. f ≢ faults.OutOfMemory → f ≢ faults.Limit → calls.call_fault k x call ≡ Some f) c.from_residual.ensures.1 (λ memory limit. status_refuses k x call fault refuses)

pub returns-in_err-doc-clause-left : goal.returns-in_err-doc-clause-left
returns-in_err-doc-clause-left g c k x s =
    let d = view c.args.value.now in
    let call = calls.add_value d in
    let old = c.args.self.now.index_state in
    let fault = c.in_err-doc.field-0.0 in
    let none = ap (λ status. calls.status_fault status false) s.status ∙ sym c.check_writer.ensures.value ∙ ap result_err c.in_ok-check_writer.was in
    let own : fault ≢ faults.OutOfMemory → calls.own_fault k x.state call ≡ Some fault =
    λ other. ap (λ (m : calls.Configuration). result_err (calls.document_value m.schema d)) s.made ∙ ap (λ r. result_err (calls.if_indexable old.schema r)) (ap (λ t. read_data t d) (sym c.schema.ensures) ∙ c.in_err-doc.ensures.err other) in
    subst (λ r. (y : calls.Index) × calls.Leaves k x call r y × Stands g.A.Analyzer.analyze old k y) (err_same c.from_residual-in_err-doc.result fault c.from_residual-in_err-doc.ensures.1)
    (x, unread_left k x call fault (adds_value d) none own, s)

pub returns-in_err-doc-clause-exact : goal.returns-in_err-doc-clause-exact
returns-in_err-doc-clause-exact g c k x s =
    let d = view c.args.value.now in
    let call = calls.add_value d in
    let old = c.args.self.now.index_state in
    let fault = c.in_err-doc.field-0.0 in
    let none = ap (λ status. calls.status_fault status false) s.status ∙ sym c.check_writer.ensures.value ∙ ap result_err c.in_ok-check_writer.was in
    let own : fault ≢ faults.OutOfMemory → calls.own_fault k x.state call ≡ Some fault =
    λ other. ap (λ (m : calls.Configuration). result_err (calls.document_value m.schema d)) s.made ∙ ap (λ r. result_err (calls.if_indexable old.schema r)) (ap (λ t. read_data t d) (sym c.schema.ensures) ∙ c.in_err-doc.ensures.err other) in
    err_has c.from_residual-in_err-doc.result fault (λ f. f ≢ faults.OutOfMemory → f ≢ faults.Limit → calls.call_fault k x call ≡ Some f) c.from_residual-in_err-doc.ensures.1 (λ memory limit. own_refuses k x call none ∙ own memory)

pub returns-clause-left : goal.returns-clause-left
returns-clause-left g c k x s =
    let d = view c.args.value.now in
    let doc = c.in_ok-doc.doc in
    let read : read_data k.schema d ≡ Ok doc = ap (λ (m : calls.Configuration). read_data m.schema d) s.made ∙ ap (λ t. read_data t d) (sym c.schema.ensures) ∙ c.in_ok-doc.ensures.ok in
    let given = given_is k.schema d doc read in
    let left = c.add_document.ensures.left k x s in
    (left.0, as_other k x (calls.add_document doc) (calls.add_value d) (adds_document doc) (adds_value d) (ap result_err given) (ap (λ r. calls.after_document r x.state) given) left.1, left.2)

pub returns-clause-exact : goal.returns-clause-exact
returns-clause-exact g c k x s =
    let d = view c.args.value.now in
    let doc = c.in_ok-doc.doc in
    let read : read_data k.schema d ≡ Ok doc = ap (λ (m : calls.Configuration). read_data m.schema d) s.made ∙ ap (λ t. read_data t d) (sym c.schema.ensures) ∙ c.in_ok-doc.ensures.ok in
    let given = given_is k.schema d doc read in
    let same = same_refusal k x (calls.add_document doc) (calls.add_value d) (adds_document doc) (adds_value d) (ap result_err given) (ap (λ r. calls.after_document r x.state) given) in
    err_map c.add_document.result (λ f. f ≢ faults.OutOfMemory → f ≢ faults.Limit → calls.call_fault k x (calls.add_document doc) ≡ Some f) (λ f. f ≢ faults.OutOfMemory → f ≢ faults.Limit → calls.call_fault k x (calls.add_value d) ≡ Some f)
    (λ f refused memory limit. same ∙ refused memory limit) (c.add_document.ensures.exact k x s)

pub returns-in_err-check_writer-clause-limit : goal.returns-in_err-check_writer-clause-limit
returns-in_err-check_writer-clause-limit g c k x s =
    let call = calls.add_value (view c.args.value.now) in
    let fault = c.in_err-check_writer.field-0.0 in
    let refuses = ap (λ status. calls.status_fault status false) s.status ∙ sym c.check_writer.ensures.value ∙ ap result_err c.in_err-check_writer.was in
    err_no_limit c.from_residual.result fault _ c.from_residual.ensures.1 (no_limit k x call fault (status_refuses k x call fault refuses))

pub returns-in_err-doc-clause-limit : goal.returns-in_err-doc-clause-limit
returns-in_err-doc-clause-limit g c k x s =
    let d = view c.args.value.now in
    let call = calls.add_value d in
    let old = c.args.self.now.index_state in
    let fault = c.in_err-doc.field-0.0 in
    let none = ap (λ status. calls.status_fault status false) s.status ∙ sym c.check_writer.ensures.value ∙ ap result_err c.in_ok-check_writer.was in
    let own : fault ≢ faults.OutOfMemory → calls.own_fault k x.state call ≡ Some fault =
    λ other. ap (λ (m : calls.Configuration). result_err (calls.document_value m.schema d)) s.made ∙ ap (λ r. result_err (calls.if_indexable old.schema r)) (ap (λ t. read_data t d) (sym c.schema.ensures) ∙ c.in_err-doc.ensures.err other) in
    err_no_limit c.from_residual-in_err-doc.result fault _ c.from_residual-in_err-doc.ensures.1 (early_no_limit k x call fault (λ memory. own_refuses k x call none ∙ own memory))

pub returns-clause-limit : goal.returns-clause-limit
returns-clause-limit g c k x s =
    let d = view c.args.value.now in
    let doc = c.in_ok-doc.doc in
    let read : read_data k.schema d ≡ Ok doc = ap (λ (m : calls.Configuration). read_data m.schema d) s.made ∙ ap (λ t. read_data t d) (sym c.schema.ensures) ∙ c.in_ok-doc.ensures.ok in
    err_map c.add_document.result (λ f. f ≡ faults.Limit → AddPasses k x.state c.args.self.now doc) (λ f. f ≡ faults.Limit → (doc : Document) × (read_data k.schema d ≡ Ok doc) × AddPasses k x.state c.args.self.now doc)
    (λ f passes limit. (doc, read, passes limit)) (c.add_document.ensures.limit k x s)

pub returns-in_err-check_writer-clause-short : goal.returns-in_err-check_writer-clause-short
returns-in_err-check_writer-clause-short g c k x doc s is = refused_no_ok c.from_residual.result c.in_err-check_writer.field-0.0 (¬ HasLongSlot c.args.self.now doc) c.from_residual.ensures.1

pub returns-in_err-check_writer-clause-long : goal.returns-in_err-check_writer-clause-long
returns-in_err-check_writer-clause-long g c k x doc s is long = any_refusal c.from_residual.result _ s

pub returns-in_err-doc-clause-short : goal.returns-in_err-doc-clause-short
returns-in_err-doc-clause-short g c k x doc s is = refused_no_ok c.from_residual-in_err-doc.result c.in_err-doc.field-0.0 (¬ HasLongSlot c.args.self.now doc) c.from_residual-in_err-doc.ensures.1

pub returns-in_err-doc-clause-long : goal.returns-in_err-doc-clause-long
returns-in_err-doc-clause-long g c k x doc s is long = any_refusal c.from_residual-in_err-doc.result _ s

pub returns-clause-short : goal.returns-clause-short
returns-clause-short g c k x doc s is =
    let d = view c.args.value.now in
    let found = c.in_ok-doc.doc in
    let read : read_data k.schema d ≡ Ok found = ap (λ (m : calls.Configuration). read_data m.schema d) s.made ∙ ap (λ t. read_data t d) (sym c.schema.ensures) ∙ c.in_ok-doc.ensures.ok in
    subst (λ e. OnOk c.add_document.result (¬ HasLongSlot c.args.self.now e)) (one_document (read_data k.schema d) found doc read is) c.add_document.ensures.short

pub returns-clause-long : goal.returns-clause-long
returns-clause-long g c k x doc s is long =
    let d = view c.args.value.now in
    let found = c.in_ok-doc.doc in
    let read : read_data k.schema d ≡ Ok found = ap (λ (m : calls.Configuration). read_data m.schema d) s.made ∙ ap (λ t. read_data t d) (sym c.schema.ensures) ∙ c.in_ok-doc.ensures.ok in
    c.add_document.ensures.long k x s (subst (HasLongSlot c.args.self.now) (sym (one_document (read_data k.schema d) found doc read is)) long)

pub returns-in_err-check_writer-clause-within : goal.returns-in_err-check_writer-clause-within
returns-in_err-check_writer-clause-within g c k x doc s is = refused_no_ok c.from_residual.result c.in_err-check_writer.field-0.0 _ c.from_residual.ensures.1

pub returns-in_err-check_writer-clause-closed : goal.returns-in_err-check_writer-clause-closed
returns-in_err-check_writer-clause-closed g c k x doc s is =
    let call = calls.add_value (view c.args.value.now) in
    let fault = c.in_err-check_writer.field-0.0 in
    let refuses = ap (λ status. calls.status_fault status false) s.status ∙ sym c.check_writer.ensures.value ∙ ap result_err c.in_err-check_writer.was in
    err_no_limit c.from_residual.result fault _ c.from_residual.ensures.1 (no_limit k x call fault (status_refuses k x call fault refuses))

pub returns-in_err-doc-clause-within : goal.returns-in_err-doc-clause-within
returns-in_err-doc-clause-within g c k x doc s is = refused_no_ok c.from_residual-in_err-doc.result c.in_err-doc.field-0.0 _ c.from_residual-in_err-doc.ensures.1

pub returns-in_err-doc-clause-closed : goal.returns-in_err-doc-clause-closed
returns-in_err-doc-clause-closed g c k x doc s is =
    let d = view c.args.value.now in
    let call = calls.add_value d in
    let old = c.args.self.now.index_state in
    let fault = c.in_err-doc.field-0.0 in
    let none = ap (λ status. calls.status_fault status false) s.status ∙ sym c.check_writer.ensures.value ∙ ap result_err c.in_ok-check_writer.was in
    let own : fault ≢ faults.OutOfMemory → calls.own_fault k x.state call ≡ Some fault =
    λ other. ap (λ (m : calls.Configuration). result_err (calls.document_value m.schema d)) s.made ∙ ap (λ r. result_err (calls.if_indexable old.schema r)) (ap (λ t. read_data t d) (sym c.schema.ensures) ∙ c.in_err-doc.ensures.err other) in
    err_no_limit c.from_residual-in_err-doc.result fault _ c.from_residual-in_err-doc.ensures.1 (early_no_limit k x call fault (λ memory. own_refuses k x call none ∙ own memory))

pub returns-clause-within : goal.returns-clause-within
returns-clause-within g c k x doc s is =
    let d = view c.args.value.now in
    let found = c.in_ok-doc.doc in
    let read : read_data k.schema d ≡ Ok found = ap (λ (m : calls.Configuration). read_data m.schema d) s.made ∙ ap (λ t. read_data t d) (sym c.schema.ensures) ∙ c.in_ok-doc.ensures.ok in
    subst (λ e. OnOk c.add_document.result (IsWithinLimits k.schema k.analyze (open_docs k.docs_per_segment x.state.pending) e)) (one_document (read_data k.schema d) found doc read is) (c.add_document.ensures.within k x s)

pub returns-clause-closed : goal.returns-clause-closed
returns-clause-closed g c k x doc s is =
    let d = view c.args.value.now in
    let found = c.in_ok-doc.doc in
    let read : read_data k.schema d ≡ Ok found = ap (λ (m : calls.Configuration). read_data m.schema d) s.made ∙ ap (λ t. read_data t d) (sym c.schema.ensures) ∙ c.in_ok-doc.ensures.ok in
    subst (λ e. IfErr c.add_document.result (λ f. f ≡ faults.Limit → ¬ HasLongSlot c.args.self.now e → state_of c.add_document.new.self ≡ calls.writer_closed)) (one_document (read_data k.schema d) found doc read is) c.add_document.ensures.closed

-- ---- of any index

pub returns-in_err-check_writer-clause-refused : goal.returns-in_err-check_writer-clause-refused
returns-in_err-check_writer-clause-refused g c k x s =
    let call = calls.add_value (view c.args.value.now) in
    let fault = c.in_err-check_writer.field-0.0 in
    let refuses = ap (λ status. calls.status_fault status false) s.status ∙ sym c.check_writer.ensures.value ∙ ap result_err c.in_err-check_writer.was in
    err_has c.from_residual.result fault (λ f. f ≢ faults.OutOfMemory → f ≢ faults.Limit → calls.call_fault k x call ≡ Some f) c.from_residual.ensures.1 (λ memory limit. status_refuses k x call fault refuses)

pub returns-in_err-check_writer-clause-admitted : goal.returns-in_err-check_writer-clause-admitted
returns-in_err-check_writer-clause-admitted g c k x s =
    not_ok c.from_residual.result c.in_err-check_writer.field-0.0 _ c.from_residual.ensures.1

pub returns-in_err-check_writer-clause-same : goal.returns-in_err-check_writer-clause-same
returns-in_err-check_writer-clause-same g c =
    err_has c.from_residual.result c.in_err-check_writer.field-0.0 _ c.from_residual.ensures.1 (λ memory limit. record { made = record { analyzer = refl; schema = refl; settings = refl }; members = refl; waiting = refl; status = refl })

pub returns-in_err-check_writer-clause-stopped : goal.returns-in_err-check_writer-clause-stopped
returns-in_err-check_writer-clause-stopped g c =
    on_err c.from_residual.result _ (inl (record { made = record { analyzer = refl; schema = refl; settings = refl }; members = refl; waiting = refl; status = refl }))

pub returns-in_err-check_writer-clause-ready : goal.returns-in_err-check_writer-clause-ready
returns-in_err-check_writer-clause-ready g c =
    not_ok c.from_residual.result c.in_err-check_writer.field-0.0 _ c.from_residual.ensures.1

pub returns-in_err-check_writer-clause-same_beside : goal.returns-in_err-check_writer-clause-same_beside
returns-in_err-check_writer-clause-same_beside g c doc is long =
    on_err c.from_residual.result _ (record { made = record { analyzer = refl; schema = refl; settings = refl }; members = refl; waiting = refl; status = refl })

pub returns-in_err-check_writer-clause-waits : goal.returns-in_err-check_writer-clause-waits
returns-in_err-check_writer-clause-waits g c doc is =
    not_ok c.from_residual.result c.in_err-check_writer.field-0.0 _ c.from_residual.ensures.1

pub returns-in_err-doc-clause-refused : goal.returns-in_err-doc-clause-refused
returns-in_err-doc-clause-refused g c k x s =
    let d = view c.args.value.now in
    let call = calls.add_value d in
    let old = c.args.self.now.index_state in
    let fault = c.in_err-doc.field-0.0 in
    let none = ap (λ status. calls.status_fault status false) s.status ∙ sym c.check_writer.ensures.value ∙ ap result_err c.in_ok-check_writer.was in
    let own : fault ≢ faults.OutOfMemory → calls.own_fault k x.state call ≡ Some fault =
    λ other. ap (λ (m : calls.Configuration). result_err (calls.document_value m.schema d)) s.made ∙ ap (λ r. result_err (calls.if_indexable old.schema r)) (ap (λ t. read_data t d) (sym c.schema.ensures) ∙ c.in_err-doc.ensures.err other) in
    err_has c.from_residual-in_err-doc.result fault (λ f. f ≢ faults.OutOfMemory → f ≢ faults.Limit → calls.call_fault k x call ≡ Some f) c.from_residual-in_err-doc.ensures.1 (λ memory limit. own_refuses k x call none ∙ own memory)

pub returns-in_err-doc-clause-admitted : goal.returns-in_err-doc-clause-admitted
returns-in_err-doc-clause-admitted g c k x s =
    not_ok c.from_residual-in_err-doc.result c.in_err-doc.field-0.0 _ c.from_residual-in_err-doc.ensures.1

pub returns-in_err-doc-clause-same : goal.returns-in_err-doc-clause-same
returns-in_err-doc-clause-same g c =
    err_has c.from_residual-in_err-doc.result c.in_err-doc.field-0.0 _ c.from_residual-in_err-doc.ensures.1 (λ memory limit. record { made = record { analyzer = refl; schema = refl; settings = refl }; members = refl; waiting = refl; status = refl })

pub returns-in_err-doc-clause-stopped : goal.returns-in_err-doc-clause-stopped
returns-in_err-doc-clause-stopped g c =
    on_err c.from_residual-in_err-doc.result _ (inl (record { made = record { analyzer = refl; schema = refl; settings = refl }; members = refl; waiting = refl; status = refl }))

pub returns-in_err-doc-clause-ready : goal.returns-in_err-doc-clause-ready
returns-in_err-doc-clause-ready g c =
    not_ok c.from_residual-in_err-doc.result c.in_err-doc.field-0.0 _ c.from_residual-in_err-doc.ensures.1

pub returns-in_err-doc-clause-same_beside : goal.returns-in_err-doc-clause-same_beside
returns-in_err-doc-clause-same_beside g c doc is long =
    on_err c.from_residual-in_err-doc.result _ (record { made = record { analyzer = refl; schema = refl; settings = refl }; members = refl; waiting = refl; status = refl })

pub returns-in_err-doc-clause-waits : goal.returns-in_err-doc-clause-waits
returns-in_err-doc-clause-waits g c doc is =
    not_ok c.from_residual-in_err-doc.result c.in_err-doc.field-0.0 _ c.from_residual-in_err-doc.ensures.1

pub returns-clause-refused : goal.returns-clause-refused
returns-clause-refused g c k x s =
    let d = view c.args.value.now in
    let doc = c.in_ok-doc.doc in
    let read : read_data k.schema d ≡ Ok doc = ap (λ (m : calls.Configuration). read_data m.schema d) s.made ∙ ap (λ t. read_data t d) (sym c.schema.ensures) ∙ c.in_ok-doc.ensures.ok in
    let given = given_is k.schema d doc read in
    let same = same_refusal k x (calls.add_document doc) (calls.add_value d) (adds_document doc) (adds_value d) (ap result_err given) (ap (λ r. calls.after_document r x.state) given) in
    err_map c.add_document.result (λ f. f ≢ faults.OutOfMemory → f ≢ faults.Limit → calls.call_fault k x (calls.add_document doc) ≡ Some f) (λ f. f ≢ faults.OutOfMemory → f ≢ faults.Limit → calls.call_fault k x (calls.add_value d) ≡ Some f)
    (λ f refused memory limit. same ∙ refused memory limit) (c.add_document.ensures.refused k x s)

pub returns-clause-admitted : goal.returns-clause-admitted
returns-clause-admitted g c k x s =
    let d = view c.args.value.now in
    let doc = c.in_ok-doc.doc in
    let read : read_data k.schema d ≡ Ok doc = ap (λ (m : calls.Configuration). read_data m.schema d) s.made ∙ ap (λ t. read_data t d) (sym c.schema.ensures) ∙ c.in_ok-doc.ensures.ok in
    let given = given_is k.schema d doc read in
    let same = same_refusal k x (calls.add_document doc) (calls.add_value d) (adds_document doc) (adds_value d) (ap result_err given) (ap (λ r. calls.after_document r x.state) given) in
    IfOk-weaker c.add_document.result _ _ (λ done taken. same ∙ taken) (c.add_document.ensures.admitted k x s)

pub returns-clause-same_beside : goal.returns-clause-same_beside
returns-clause-same_beside g c doc is long =
    let d = view c.args.value.now in
    let schema = c.args.self.now.index_state.schema in
    let found = c.in_ok-doc.doc in
    let read : read_data schema d ≡ Ok found = ap (λ t. read_data t d) (sym c.schema.ensures) ∙ c.in_ok-doc.ensures.ok in
    let one = one_document (read_data schema d) found doc read is in
    c.add_document.ensures.same_beside (subst (HasLongSlot c.args.self.now) (sym one) long)

pub returns-clause-waits : goal.returns-clause-waits
returns-clause-waits g c doc is =
    let d = view c.args.value.now in
    let schema = c.args.self.now.index_state.schema in
    let found = c.in_ok-doc.doc in
    let read : read_data schema d ≡ Ok found = ap (λ t. read_data t d) (sym c.schema.ensures) ∙ c.in_ok-doc.ensures.ok in
    let one = one_document (read_data schema d) found doc read is in
    subst (λ e. OnOk c.add_document.result (WaitsMore g.A.Analyzer.analyze e c.args.self.now.index_state c.add_document.new.self)) one c.add_document.ensures.waits
