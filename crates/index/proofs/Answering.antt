-- What is replied to a request, from what the index did.
use Rattle.std.proofs.Common.{Err, inl, inr, ◌⊎◌, false, true, true≢false, ok_or, option_map, IfErr, IfOk, List, None, Ok, OnOk, Option, Result, Some, ap, refl, subst, sym, ◌∙◌, ◌≡◌, ◌≢◌, ℕ}
use Rattle.std.specs.Bool.{⊤}
use Rattle.std.specs.Prelude.{OnErr}
use Rattle.common.specs.declared.analyzer.Analyzer as analyzers
use Rattle.common.specs.declared.device.Device as devices
use Rattle.definitions.specs.Analyzers.{Analyzer}
use Rattle.definitions.specs.Calls as calls
use Rattle.definitions.specs.FaultNames.{reply_text}
use Rattle.std.specs.Option.{option_or}
use Rattle.definitions.specs.Replies.{ok_reply, reply_of}
use Rattle.definitions.specs.Requests as requests
use Rattle.definitions.specs.Step as steps
use Rattle.definitions.specs.declared.fault.Fault.{Fault}
use Rattle.definitions.specs.declared.fault.Fault.TheVariants as faults
use Rattle.definitions.proofs.ReplyTexts.{error_text, ok_text}
use Rattle.definitions.proofs.Steps.{answered_call, refused_call, unread_call}
use Rattle.definitions.specs.QueryGrammar.{query_in}
use Rattle.definitions.specs.Query.{Query}
use Rattle.definitions.specs.Replies.{count_reply, hits_reply}
use Rattle.definitions.specs.Scanning.{scan, scan_count}
use Rattle.definitions.specs.State.{committed}
use Rattle.definitions.specs.TermGrammar.{term_in}
use Rattle.serde_json.specs.Data as json
use Rattle.std.specs.Cow.{cow_str_bytes}
use Rattle.std.specs.declared.borrow.CowStr.{CowStr}
use Rattle.serde_json.specs.Read.{read}
use Rattle.index.specs.Replying.{Answers, GoesOn, TakesChange, change_text}
use Rattle.engine.specs.Indexes.{IndexStands}
use Rattle.engine.specs.declared.index.Index.{Index}
use Rattle.definitions.specs.Replying.{stops}

none≢some : {X : Type 0} {x : X} → None ≡ Some x → ⊥
none≢some h = cc

-- a call that is answered wasn't refused
pub answered_leaves : (c : calls.Configuration) (x y : calls.Index) (call : calls.Call) → calls.Leaves c x call (Ok tt) y → (calls.call_fault c x call ≡ None) × (y ≡ record { state = calls.after c x.state call; status = x.status })
answered_leaves c x y call (calls.answered accepted) = (accepted, refl)

-- a call that its tests refuse leaves what stood
refused_leaves : (c : calls.Configuration) (x y : calls.Index) (call : calls.Call) (fault : Fault) → calls.Leaves c x call (Err fault) y → calls.call_fault c x call ≡ Some fault → fault ≢ faults.OutOfMemory → y ≡ x
refused_leaves c x y call fault (calls.refused f told) h other = refl
refused_leaves c x y call fault (calls.memory_refused ready adds) h other = refl
refused_leaves c x y call fault (calls.limit_refused accepted adds) h other = refl
refused_leaves c x y call fault (calls.half_written f want accepted adds) h other = absurd (none≢some (sym accepted ∙ h))
refused_leaves c x y call fault (calls.device_failed accepted writes) h other = absurd (none≢some (sym accepted ∙ h))
refused_leaves c x y call fault (calls.slot_damaged accepted reads) h other = refl

-- a fault after which the run goes on isn't one that stops
pub going_on : (fault other : Fault) → stops fault ≡ false → stops other ≡ true → fault ≢ other
going_on fault other on stop same = true≢false (sym stop ∙ ap stops (sym same) ∙ on)

-- the reply to a change, and what stands after it
pub change_answered : {D A : Type 0} {d : devices.Ghosts D} {an : analyzers.Ghosts A} (analyze : A → Analyzer) (new : Index D A d an) (c : calls.Configuration) (x : calls.Index) (r : requests.Request) (call : calls.Call) (change : Result ⊤ Fault) → steps.call_in c.schema r ≡ Ok call → steps.answer_reply c x.state call ≡ ok_reply → (y : calls.Index) × calls.Leaves c x call change y × IndexStands analyze new c y → IfErr change (λ fault. stops fault ≡ false → calls.call_fault c x call ≡ Some fault) → GoesOn change → (change_text change ≡ reply_of ((steps.index_step c x r).0)) × IndexStands analyze new c ((steps.index_step c x r).1)
change_answered analyze new c x r call (Ok u) read ok (y, left, stands) exact other =
    let told = answered_leaves c x y call left in
    let step = answered_call c x r call read told.0 in
    (sym ok_text ∙ sym (ap reply_of ok) ∙ ap (λ p. reply_of p.0) (sym step), subst (λ p. IndexStands analyze new c p.1) (sym step) (subst (IndexStands analyze new c) told.1 stands))
change_answered analyze new c x r call (Err fault) read ok (y, left, stands) exact other =
    let not_memory : fault ≢ faults.OutOfMemory = going_on fault faults.OutOfMemory other refl in
    let refused = exact other in
    let step = refused_call c x r call fault read refused in
    (error_text fault ∙ ap (λ p. reply_of p.0) (sym step), subst (λ p. IndexStands analyze new c p.1) (sym step) (subst (IndexStands analyze new c) (refused_leaves c x y call fault left refused not_memory) stands))

-- ---- searches and counts

-- a query that isn't read is refused so
pub unread_search : (c : calls.Configuration) (x : calls.Index) (d : json.Data) (k : ℕ) → calls.status_fault x.status true ≡ None → query_in c.schema d ≡ None → steps.index_step c x (requests.search_docs d k) ≡ steps.refusing faults.BadQuery x
unread_search c x d k ready unread = unread_call c x (requests.search_docs d k) faults.BadQuery (ap (λ o. ok_or (option_map (λ q. calls.search_best q k) o) faults.BadQuery) unread) ready

pub unread_count : (c : calls.Configuration) (x : calls.Index) (d : json.Data) → calls.status_fault x.status true ≡ None → query_in c.schema d ≡ None → steps.index_step c x (requests.count_docs d) ≡ steps.refusing faults.BadQuery x
unread_count c x d ready unread = unread_call c x (requests.count_docs d) faults.BadQuery (ap (λ o. ok_or (option_map calls.count_all o) faults.BadQuery) unread) ready

-- one that is read is searched for
pub read_search : (c : calls.Configuration) (d : json.Data) (k : ℕ) (q : Query) → query_in c.schema d ≡ Some q → steps.call_in c.schema (requests.search_docs d k) ≡ Ok (calls.search_best q k)
read_search c d k q read = ap (λ o. ok_or (option_map (λ p. calls.search_best p k) o) faults.BadQuery) read

pub read_count : (c : calls.Configuration) (d : json.Data) (q : Query) → query_in c.schema d ≡ Some q → steps.call_in c.schema (requests.count_docs d) ≡ Ok (calls.count_all q)
read_count c d q read = ap (λ o. ok_or (option_map calls.count_all o) faults.BadQuery) read

-- the step of a search that is answered
pub search_answered : (c : calls.Configuration) (x : calls.Index) (d : json.Data) (k : ℕ) (q : Query) → query_in c.schema d ≡ Some q → calls.call_fault c x (calls.search_best q k) ≡ None → steps.index_step c x (requests.search_docs d k) ≡ (hits_reply (scan c.schema c.analyze c.similarity (committed x.state) q k), x)
search_answered c x d k q read accepted = answered_call c x (requests.search_docs d k) (calls.search_best q k) (read_search c d k q read) accepted

pub count_answered : (c : calls.Configuration) (x : calls.Index) (d : json.Data) (q : Query) → query_in c.schema d ≡ Some q → calls.call_fault c x (calls.count_all q) ≡ None → steps.index_step c x (requests.count_docs d) ≡ (count_reply (scan_count c.schema c.analyze (committed x.state) q), x)
count_answered c x d q read accepted = answered_call c x (requests.count_docs d) (calls.count_all q) (read_count c d q read) accepted

-- ---- replies

-- the reply to a request that is refused
pub refusal_answered : {D A Z : Type 0} {d : devices.Ghosts D} {an : analyzers.Ghosts A} (analyze : A → Analyzer) (index : Index D A d an) (c : calls.Configuration) (x : calls.Index) (r : requests.Request) (fault : Fault) (result : Result (CowStr Z) Fault) → IndexStands analyze index c x → (fault ≢ faults.OutOfMemory → steps.index_step c x r ≡ steps.refusing fault x) → IfOk result (λ text. cow_str_bytes text ≡ reply_text fault) → OnOk result (stops fault ≡ false) → Answers analyze index c x r result
refusal_answered analyze index c x r fault (Ok text) s refused told other =
    let step = refused (going_on fault faults.OutOfMemory other refl) in
    record {
      text = told ∙ error_text fault ∙ ap (λ p. reply_of p.0) (sym step);
      state = subst (λ p. IndexStands analyze index c p.1) (sym step) s;
    }
refusal_answered analyze index c x r fault (Err e) s refused told other = record { text = tt; state = tt }

-- the reply to a request that changes nothing
pub text_answered : {D A Z : Type 0} {d : devices.Ghosts D} {an : analyzers.Ghosts A} (analyze : A → Analyzer) (index : Index D A d an) (c : calls.Configuration) (x : calls.Index) (r : requests.Request) (said : json.Data) (text : CowStr Z) → IndexStands analyze index c x → steps.index_step c x r ≡ (said, x) → cow_str_bytes text ≡ reply_of said → Answers analyze index c x r (Ok text)
text_answered analyze index c x r said text s step told = record {
  text = told ∙ ap (λ p. reply_of p.0) (sym step);
  state = subst (λ p. IndexStands analyze index c p.1) (sym step) s;
}

-- the reply to a request that changes something
pub change_answers : {D A Z : Type 0} {d : devices.Ghosts D} {an : analyzers.Ghosts A} (analyze : A → Analyzer) (new : Index D A d an) (c : calls.Configuration) (x : calls.Index) (r : requests.Request) (call : calls.Call) (change : Result ⊤ Fault) (result : Result (CowStr Z) Fault) → steps.call_in c.schema r ≡ Ok call → steps.answer_reply c x.state call ≡ ok_reply → (y : calls.Index) × calls.Leaves c x call change y × IndexStands analyze new c y → IfErr change (λ fault. stops fault ≡ false → calls.call_fault c x call ≡ Some fault) → IfOk result (λ text. cow_str_bytes text ≡ change_text change) → OnOk result (GoesOn change) → Answers analyze new c x r result
change_answers analyze new c x r call change (Ok text) read ok left exact told other =
    let both = change_answered analyze new c x r call change read ok left exact other in
    record { text = told ∙ both.0; state = both.1 }
change_answers analyze new c x r call change (Err e) read ok left exact told other = record { text = tt; state = tt }

-- and where its answer and its refusal are known
pub taken_answers : {D A Z : Type 0} {d : devices.Ghosts D} {an : analyzers.Ghosts A} (analyze : A → Analyzer) (new : Index D A d an) (c : calls.Configuration) (x : calls.Index) (r : requests.Request) (change : Result ⊤ Fault) (result : Result (CowStr Z) Fault) → OnOk change (TakesChange analyze new c x r) → IfErr change (λ fault. fault ≢ faults.OutOfMemory → steps.index_step c x r ≡ steps.refusing fault x) → OnErr change (IndexStands analyze new c x)
    → IfOk result (λ text. cow_str_bytes text ≡ change_text change) → OnOk result (GoesOn change) → Answers analyze new c x r result
taken_answers analyze new c x r change (Err e) taken refused left told on = record { text = tt; state = tt }
taken_answers analyze new c x r (Ok u) (Ok text) taken refused left told on = record { text = told ∙ sym ok_text ∙ ap reply_of (sym taken.0); state = taken.1 }
taken_answers analyze new c x r (Err fault) (Ok text) taken refused left told on =
    let step = refused (going_on fault faults.OutOfMemory on refl) in
    record {
      text = told ∙ error_text fault ∙ ap (λ p. reply_of p.0) (sym step);
      state = subst (λ p. IndexStands analyze new c p.1) (sym step) left;
    }

-- ---- a deletion

-- a term that is read is deleted
pub read_deletion : (c : calls.Configuration) (d : json.Data) (term : List ℕ) → term_in c.schema d ≡ Some term → steps.call_in c.schema (requests.delete_docs d) ≡ Ok (calls.delete_term term)
read_deletion c d term read = ap (λ o. ok_or (option_map calls.delete_term o) faults.BadTerm) read

-- one that isn't is refused so
pub unread_deletion : (c : calls.Configuration) (x : calls.Index) (d : json.Data) → calls.status_fault x.status false ≡ None → term_in c.schema d ≡ None → steps.index_step c x (requests.delete_docs d) ≡ steps.refusing faults.BadTerm x
unread_deletion c x d ready unread = unread_call c x (requests.delete_docs d) faults.BadTerm (ap (λ o. ok_or (option_map calls.delete_term o) faults.BadTerm) unread) ready

-- a deletion leaves what its request does
pub deletion_taken : {D A : Type 0} {d : devices.Ghosts D} {an : analyzers.Ghosts A} (analyze : A → Analyzer) (new : Index D A d an) (c : calls.Configuration) (x : calls.Index) (value : json.Data) (term : List ℕ) (change : Result ⊤ Fault) → term_in c.schema value ≡ Some term → (y : calls.Index) × calls.Leaves c x (calls.delete_term term) change y × IndexStands analyze new c y → OnOk change (TakesChange analyze new c x (requests.delete_docs value))
deletion_taken analyze new c x value term (Err fault) read left = tt
deletion_taken analyze new c x value term (Ok u) read (y, left, stands) =
    let told = answered_leaves c x y (calls.delete_term term) left in
    let step = answered_call c x (requests.delete_docs value) (calls.delete_term term) (read_deletion c value term read) told.0 in
    (ap (λ p. p.0) step, subst (λ p. IndexStands analyze new c p.1) (sym step) (subst (IndexStands analyze new c) told.1 stands))

-- one that fails leaves what stood
failed_deletion : (c : calls.Configuration) (x y : calls.Index) (term : List ℕ) (fault : Fault) → calls.Leaves c x (calls.delete_term term) (Err fault) y → y ≡ x
failed_deletion c x y term fault (calls.refused f told) = refl
failed_deletion c x y term fault (calls.memory_refused ready adds) = refl
failed_deletion c x y term fault (calls.limit_refused accepted adds) = refl
failed_deletion c x y term fault (calls.half_written f want accepted adds) = absurd (true≢false (sym adds))
failed_deletion c x y term fault (calls.device_failed accepted writes) = absurd (true≢false (sym writes))
failed_deletion c x y term fault (calls.slot_damaged accepted reads) = refl

pub deletion_left : {D A : Type 0} {d : devices.Ghosts D} {an : analyzers.Ghosts A} (analyze : A → Analyzer) (new : Index D A d an) (c : calls.Configuration) (x : calls.Index) (term : List ℕ) (change : Result ⊤ Fault) → (y : calls.Index) × calls.Leaves c x (calls.delete_term term) change y × IndexStands analyze new c y → OnErr change (IndexStands analyze new c x)
deletion_left analyze new c x term (Ok u) left = tt
deletion_left analyze new c x term (Err fault) (y, left, stands) = subst (IndexStands analyze new c) (failed_deletion c x y term fault left) stands

-- ---- a merge or a commit

-- an index whose writer refuses nothing was ready
pub ready_then : (status : calls.Status) (own : Option Fault) → option_or (calls.status_fault status false) own ≡ None → status ≡ calls.ready
ready_then calls.ready own h = refl
ready_then calls.writer_closed own h = absurd (none≢some (sym h))
ready_then calls.closed own h = absurd (none≢some (sym h))

-- the index was ready, or its file is as it was
pub write_kept : {Z : Type 0} (Kept : Type 0) (stands : calls.Index → Type 0) (call : calls.Call) (change : Result ⊤ Fault) (result : Result Z Fault) (c : calls.Configuration) (x : calls.Index) → calls.only_reads call ≡ false → (y : calls.Index) × calls.Leaves c x call change y × stands y → IfErr change (λ fault. fault ≢ faults.Device → Kept) → OnOk result (GoesOn change) → OnOk result ((x.status ≡ calls.ready) ⊎ Kept)
write_kept Kept stands call change (Err e) c x writes left kept on = tt
write_kept Kept stands call (Ok u) (Ok z) c x writes (y, left, stood) kept on = inl (ready_then x.status (calls.own_fault c x.state call) (subst (λ reads. option_or (calls.status_fault x.status reads) (calls.own_fault c x.state call) ≡ None) writes ((answered_leaves c x y call left).0)))
write_kept Kept stands call (Err fault) (Ok z) c x writes left kept on = inr (kept (going_on fault faults.Device on refl))

-- what is refused unless memory is wanted is refused where the run goes on
pub add_refused : {T : Type 0} (r : Result T Fault) (P : Fault → Type 0) → IfErr r (λ fault. fault ≢ faults.OutOfMemory → fault ≢ faults.Limit → P fault) → IfErr r (λ fault. stops fault ≡ false → P fault)
add_refused (Ok t) P h = tt
add_refused (Err fault) P h = λ on. h (going_on fault faults.OutOfMemory on refl) (going_on fault faults.Limit on refl)

pub write_refused : {T : Type 0} (r : Result T Fault) (P : Fault → Type 0) → IfErr r (λ fault. fault ≢ faults.OutOfMemory → fault ≢ faults.Device → fault ≢ faults.Limit → P fault) → IfErr r (λ fault. stops fault ≡ false → P fault)
write_refused (Ok t) P h = tt
write_refused (Err fault) P h = λ on. h (going_on fault faults.OutOfMemory on refl) (going_on fault faults.Device on refl) (going_on fault faults.Limit on refl)
