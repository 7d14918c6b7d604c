-- Calls of an index: what each is refused by, and what stands after it.
use Rattle.std.specs.Prelude.{[], ⊤, ◌||◌, ◌∷◌, ◌≡◌, Bool, Err, List, None, Ok, Option, Result, Some, false, if◌then◌else◌, length, nat_le, true, ℕ}
use Rattle.std.specs.List.{list_any}
use Rattle.std.specs.Result.{result_err}
use Rattle.definitions.specs.Analyzers.{Analyzer}
use Rattle.definitions.specs.Indexable.{is_indexable}
use Rattle.definitions.specs.Query.{Query}
use Rattle.definitions.specs.Reading.{read_data, read_json}
use Rattle.definitions.specs.Refusing.{first_fault, is_not_indexed, is_unknown, refusal}
use Rattle.std.specs.Option.{option_or}
use Rattle.definitions.specs.Schema.{Schema}
use Rattle.definitions.specs.Scoring.{Similarity}
use Rattle.definitions.specs.State.{State, after_add, after_commit, after_delete, after_merge, is_bad_range}
use Rattle.definitions.specs.Values.{Document}
use Rattle.definitions.specs.declared.fault.Fault.{Fault}
use Rattle.serde_json.specs.Data as json
use Rattle.definitions.specs.declared.fault.Fault.TheVariants as faults

-- what stays the same as long as an index lives
pub record Configuration : Type 0 where
  pub schema : Schema
  pub analyze : Analyzer
  pub similarity : Similarity
  pub docs_per_segment : ℕ

-- which calls an index takes: all, those that only read, or none
pub data Status : Type 0 where
  ready : Status
  writer_closed : Status
  closed : Status

-- what an index has, and which calls it takes
pub record Index : Type 0 where
  pub state : State
  pub status : Status

-- the calls that change an index or ask it
pub data Call : Type 0 where
  add_json : List ℕ → Call
  add_value : json.Data → Call
  add_document : Document → Call
  delete_term : List ℕ → Call
  commit_pending : Call
  merge_range : ℕ → ℕ → Call
  search_best : Query → ℕ → Call
  count_all : Query → Call

-- whether a call adds a document
abbrev pub is_add : Call → Bool
is_add (add_json s) = true
is_add (add_value d) = true
is_add (add_document doc) = true
is_add _ = false

-- whether it commits
abbrev pub is_commit : Call → Bool
is_commit commit_pending = true
is_commit _ = false

-- whether it merges
abbrev pub is_merge : Call → Bool
is_merge (merge_range from to) = true
is_merge _ = false

-- whether it searches
abbrev pub is_search : Call → Bool
is_search (search_best q k) = true
is_search _ = false

-- whether it changes nothing
abbrev pub only_reads : Call → Bool
only_reads (search_best q k) = true
only_reads (count_all q) = true
only_reads _ = false

-- ---- what a call is refused by

-- what was read, if it can be indexed
abbrev pub if_indexable : Schema → Result Document Fault → Result Document Fault
if_indexable schema (Ok doc) = if is_indexable schema doc then Ok doc else Err faults.NotIndexable
if_indexable schema (Err fault) = Err fault

-- whether a value is of a field that the schema doesn't have
abbrev pub has_unknown_field : Schema → Document → Bool
has_unknown_field schema doc = list_any (λ p. nat_le (length schema) p.0) doc

-- the document that an add adds, or why it is refused
abbrev pub document_json : Schema → List ℕ → Result Document Fault
document_json schema s = if_indexable schema (read_json schema s)

-- the document of a JSON value, if it may be indexed
abbrev pub document_value : Schema → json.Data → Result Document Fault
document_value schema d = if_indexable schema (read_data schema d)

-- a given document, if it may be indexed: a field that the schema lacks is refused first
abbrev pub document_given : Schema → Document → Result Document Fault
document_given schema doc = if has_unknown_field schema doc then Err faults.UnknownField else if_indexable schema (Ok doc)

-- why no term is deleted: its field is unknown, or not indexed
abbrev pub delete_fault : Schema → List ℕ → Option Fault
delete_fault schema t = first_fault ((is_unknown schema t, faults.UnknownField) ∷ (is_not_indexed schema t, faults.NotIndexed) ∷ [])

-- a call's own tests
abbrev pub own_fault : Configuration → State → Call → Option Fault
own_fault c s (add_json text) = result_err (document_json c.schema text)
own_fault c s (add_value d) = result_err (document_value c.schema d)
own_fault c s (add_document doc) = result_err (document_given c.schema doc)
own_fault c s (delete_term t) = delete_fault c.schema t
own_fault c s commit_pending = None
own_fault c s (merge_range from to) = if is_bad_range from to s then Some faults.BadRange else None
own_fault c s (search_best q k) = refusal c.schema c.similarity.weight q
own_fault c s (count_all q) = refusal c.schema c.similarity.weight q

-- a closed index refuses every call, and a closed writer every call that writes
abbrev pub status_fault : Status → Bool → Option Fault
status_fault ready reads = None
status_fault writer_closed reads = if reads then None else Some faults.WriterClosed
status_fault closed reads = Some faults.Closed

-- what a call is refused by: the status first, then its own tests
abbrev pub call_fault : Configuration → Index → Call → Option Fault
call_fault c x call = option_or (status_fault x.status (only_reads call)) (own_fault c x.state call)

-- ---- what stands after a call

-- the state after an add, where a document was read
abbrev pub after_document : Result Document Fault → State → State
after_document (Ok doc) s = after_add doc s
after_document (Err fault) s = s

-- the state after a call that isn't refused
abbrev pub after : Configuration → State → Call → State
after c s (add_json text) = after_document (document_json c.schema text) s
after c s (add_value d) = after_document (document_value c.schema d) s
after c s (add_document doc) = after_document (document_given c.schema doc) s
after c s (delete_term t) = after_delete t s
after c s commit_pending = after_commit c.schema c.analyze c.docs_per_segment s
after c s (merge_range from to) = after_merge from to s
after c s (search_best q k) = s
after c s (count_all q) = s

-- want of memory, or a limit that would be passed
pub data IsWant : Fault → Type 0 where
  no_memory : IsWant faults.OutOfMemory
  limit_met : IsWant faults.Limit

-- What a call may answer and leave, a case for each way in which it can end.
pub data Leaves (c : Configuration) (x : Index) (call : Call) : Result ⊤ Fault → Index → Type 0 where
  -- a refusal changes nothing
  refused : (fault : Fault) → call_fault c x call ≡ Some fault → Leaves c x call (Err fault) x
  answered : call_fault c x call ≡ None → Leaves c x call (Ok tt) (record { state = after c x.state call; status = x.status })
  -- want of memory before anything changed; a commit has no such moment
  memory_refused : status_fault x.status (only_reads call) ≡ None → is_commit call ≡ false → Leaves c x call (Err faults.OutOfMemory) x
  -- a limit that an add or a merge would pass, before anything changed
  limit_refused : call_fault c x call ≡ None → (is_add call || is_merge call) ≡ true → Leaves c x call (Err faults.Limit) x
  -- want of memory or a limit while an add or a commit is written
  half_written : (fault : Fault) → IsWant fault → call_fault c x call ≡ None → (is_add call || is_commit call) ≡ true → Leaves c x call (Err fault) (record { state = x.state; status = writer_closed })
  device_failed : call_fault c x call ≡ None → (is_commit call || is_merge call) ≡ true → Leaves c x call (Err faults.Device) (record { state = x.state; status = closed })
  slot_damaged : call_fault c x call ≡ None → (is_search call || is_merge call) ≡ true → Leaves c x call (Err (faults.Damaged None)) x
