-- Documents that are added as JSON: what is left is what is left where the document itself is added.
use Rattle.std.specs.Prelude.{Option, if◌then◌else◌}
use Rattle.std.proofs.Common.{[], Bool, Err, List, None, Ok, Result, Some, ap, ap₂, arith, false, nat_le, refl, subst, sym, true, true≢false, ◌<◌, ◌||◌, ◌∙◌, ◌∷◌, ◌≡◌, ◌≢◌, length, ⊎_elim, ℕ}
use Rattle.std.specs.Bool.{⊤}
use Rattle.std.specs.List.{AllByRecursion}
use Rattle.std.specs.Option.{option_or}
use Rattle.std.proofs.lemmas.Bool.Decides.{nat_tests}
use Rattle.definitions.proofs.OwnFaults.{is_failure, refused_by_no_failure}
use Rattle.definitions.proofs.ReadDocs.{data_read, fields_known}
use Rattle.definitions.specs.Calls as calls
use Rattle.definitions.specs.Reading.{read_data}
use Rattle.definitions.specs.Schema.{Schema}
use Rattle.definitions.specs.Values.{Document}
use Rattle.definitions.specs.declared.fault.Fault.{Fault}
use Rattle.definitions.specs.declared.fault.Fault.TheVariants as faults
use Rattle.index_file.proofs.Faults.{memory_or_other}
use Rattle.serde_json.specs.Data as json
use Rattle.serde_json.specs.Read.{read}

-- ---- one add for another

-- a call that adds, and does nothing else
pub record Adds (call : calls.Call) : Type 0 where
  pub writes : calls.only_reads call ≡ false
  pub adds : calls.is_add call ≡ true
  pub no_commit : calls.is_commit call ≡ false
  pub no_merge : calls.is_merge call ≡ false
  pub no_search : calls.is_search call ≡ false

neither : (a b : Bool) → a ≡ false → b ≡ false → (a || b) ≡ true → ⊥
neither a b first second either = true≢false (sym either ∙ ap₂ (λ p q. p || q) first second)

module _ (c : calls.Configuration) (x : calls.Index) (one other : calls.Call) (first : Adds one) (second : Adds other) (own : calls.own_fault c x.state other ≡ calls.own_fault c x.state one) (after : calls.after c x.state other ≡ calls.after c x.state one) where
  same_status : calls.status_fault x.status (calls.only_reads other) ≡ calls.status_fault x.status (calls.only_reads one)
  same_status = ap (calls.status_fault x.status) (second.writes ∙ sym first.writes)

  pub same_refusal : calls.call_fault c x other ≡ calls.call_fault c x one
  same_refusal = ap₂ option_or same_status own

  pub as_other : {r : Result ⊤ Fault} {y : calls.Index} → calls.Leaves c x one r y → calls.Leaves c x other r y
  as_other (calls.Leaves.refused fault is) = calls.refused fault (same_refusal ∙ is)
  as_other (calls.Leaves.answered is) = subst (λ s. calls.Leaves c x other (Ok tt) (record { state = s; status = x.status })) after (calls.answered (same_refusal ∙ is))
  as_other (calls.Leaves.memory_refused open_ writes) = calls.memory_refused (same_status ∙ open_) second.no_commit
  as_other (calls.Leaves.limit_refused is writes) = calls.limit_refused (same_refusal ∙ is) (ap (λ b. b || calls.is_merge other) second.adds)
  as_other (calls.Leaves.half_written fault want is writes) = calls.half_written fault want (same_refusal ∙ is) (ap (λ b. b || calls.is_commit other) second.adds)
  as_other (calls.Leaves.device_failed is writes) = absurd (neither (calls.is_commit one) (calls.is_merge one) first.no_commit first.no_merge writes)
  as_other (calls.Leaves.slot_damaged is reads) = absurd (neither (calls.is_search one) (calls.is_merge one) first.no_search first.no_merge reads)

pub adds_document : (doc : Document) → Adds (calls.add_document doc)
adds_document doc = record { writes = refl; adds = refl; no_commit = refl; no_merge = refl; no_search = refl }

pub adds_value : (d : json.Data) → Adds (calls.add_value d)
adds_value d = record { writes = refl; adds = refl; no_commit = refl; no_merge = refl; no_search = refl }

pub adds_json : (text : List ℕ) → Adds (calls.add_json text)
adds_json text = record { writes = refl; adds = refl; no_commit = refl; no_merge = refl; no_search = refl }

-- ---- documents that are read

known_fields : (schema : Schema) (doc : Document) → AllByRecursion (λ p. p.0 < length schema) doc → calls.has_unknown_field schema doc ≡ false
known_fields schema [] h = refl
known_fields schema (p ∷ doc) h =
    let within = h.0 in
    let no : nat_le (length schema) p.0 ≡ false = grind (arith, nat_tests) in
    ap₂ (λ a b. a || b) no (known_fields schema doc h.1)

-- a document that is read is refused as it is given
pub given_is : (schema : Schema) (d : json.Data) (doc : Document) → read_data schema d ≡ Ok doc → calls.document_value schema d ≡ calls.document_given schema doc
given_is schema d doc is =
    let known = known_fields schema doc (fields_known schema doc (data_read schema d doc is)) in
    ap (calls.if_indexable schema) is ∙ sym (ap (λ b. if b then Err faults.UnknownField else calls.if_indexable schema (Ok doc)) known)

-- a text that is read is refused as its value
pub text_is : (schema : Schema) (text : List ℕ) (d : json.Data) → read text ≡ Some d → calls.document_json schema text ≡ calls.document_value schema d
text_is schema text d is = ap (λ o. calls.if_indexable schema (elim o [ None ↦ Err faults.NotAnObject | Some v ↦ read_data schema v ])) is

-- a text that isn't read is no object
pub no_text_is : (schema : Schema) (text : List ℕ) → read text ≡ None → calls.document_json schema text ≡ Err faults.NotAnObject
no_text_is schema text is = ap (λ o. calls.if_indexable schema (elim o [ None ↦ Err faults.NotAnObject | Some v ↦ read_data schema v ])) is

-- ---- what is refused before a document is there

-- memory that ran out, or what the call is refused by
pub unread_left : (c : calls.Configuration) (x : calls.Index) (call : calls.Call) (fault : Fault) → Adds call → calls.status_fault x.status false ≡ None → (fault ≢ faults.OutOfMemory → calls.own_fault c x.state call ≡ Some fault) → calls.Leaves c x call (Err fault) x
unread_left c x call fault adds none own =
    let open_ : calls.status_fault x.status (calls.only_reads call) ≡ None = ap (calls.status_fault x.status) adds.writes ∙ none in
    ⊎_elim
    (λ (memory : fault ≡ faults.OutOfMemory). subst (λ f. calls.Leaves c x call (Err f) x) (sym memory) (calls.memory_refused open_ adds.no_commit))
    (λ (other : fault ≢ faults.OutOfMemory). calls.refused fault (ap (λ o. option_or o (calls.own_fault c x.state call)) open_ ∙ own other))
    (memory_or_other fault)

-- what refuses a call is no limit
pub no_limit : (c : calls.Configuration) (x : calls.Index) (call : calls.Call) (fault : Fault) → calls.call_fault c x call ≡ Some fault → fault ≢ faults.Limit
no_limit c x call fault refused limit = true≢false (sym (ap is_failure limit) ∙ refused_by_no_failure c x call fault refused)

-- what wants memory is no limit either, so that an early refusal is none
pub early_no_limit : (c : calls.Configuration) (x : calls.Index) (call : calls.Call) (fault : Fault) → (fault ≢ faults.OutOfMemory → calls.call_fault c x call ≡ Some fault) → fault ≢ faults.Limit
early_no_limit c x call fault refused limit = ⊎_elim
    (λ (memory : fault ≡ faults.OutOfMemory). let same : faults.OutOfMemory ≡ faults.Limit = sym memory ∙ limit in cc)
    (λ (other : fault ≢ faults.OutOfMemory). no_limit c x call fault (refused other) limit)
    (memory_or_other fault)

-- ---- a document whose slot is too long

-- what reads as two documents reads as one
pub one_document : (r : Result Document Fault) (one other : Document) → r ≡ Ok one → r ≡ Ok other → one ≡ other
one_document r one other first second = ap (λ o. unwrap_document one o) (sym (ap ok_or_none first) ∙ ap ok_or_none second)
  where
    ok_or_none : Result Document Fault → Option Document
    ok_or_none (Ok doc) = Some doc
    ok_or_none (Err fault) = None

    unwrap_document : Document → Option Document → Document
    unwrap_document absent None = absent
    unwrap_document absent (Some doc) = doc
