-- A line in, a line out: what the program replies, and what stands after it.
use Rattle.std.specs.Prelude.{[], Bool, Err, List, None, Ok, Option, Result, Some, false, if◌then◌else◌, ok_or, option_map, true, ℕ}
use Rattle.definitions.specs.Analyzers.{Analyzer}
use Rattle.definitions.specs.Calls.{Call, Configuration, Index, Status, add_value, after, closed, commit_pending, count_all, delete_term, merge_range, own_fault, ready, search_best, status_fault, writer_closed}
use Rattle.definitions.specs.Json.{◌>>=◌}
use Rattle.definitions.specs.Making.{are_analyzed, making_fault}
use Rattle.std.specs.Option.{option_or}
use Rattle.definitions.specs.QueryGrammar.{query_in}
use Rattle.definitions.specs.Replies.{count_reply, error_reply, hits_reply, ok_reply, reply_of}
use Rattle.definitions.specs.Requests.{Request, add_doc, commit_all, count_docs, create_index, delete_docs, merge_groups, open_index, request_in, search_docs}
use Rattle.definitions.specs.Scanning.{scan, scan_count}
use Rattle.definitions.specs.Schema.{Schema}
use Rattle.definitions.specs.SchemaGrammar.{schema_in}
use Rattle.definitions.specs.Settings.{Settings, default_settings, similarity_of}
use Rattle.definitions.specs.SettingsGrammar.{settings_in}
use Rattle.definitions.specs.State.{State, committed, nothing_yet}
use Rattle.definitions.specs.TermGrammar.{term_in}
use Rattle.definitions.specs.Values.{Document}
use Rattle.definitions.specs.declared.fault.Fault.{Fault}
use Rattle.serde_json.specs.Read.{read}
use Rattle.serde_json.specs.Data as json
use Rattle.definitions.specs.declared.fault.Fault.TheVariants as faults

-- the tokenizers that an analyzer knows, and how it cuts a text
pub record Analysis : Type 0 where
  pub knows : List ℕ → Bool
  pub analyze : Analyzer

-- What a device holds: no byte, or the file of an index with the groups that its last record leaves, or other bytes, with
-- why no index is opened from them.
pub data Held : Type 0 where
  no_file : Held
  file_of : Schema → Settings → List (List Document) → Held
  other_bytes : List ℕ → Fault → Held

-- what stands on the device: no index, or one that is made of a schema and settings
pub data Stage : Type 0 where
  no_index : Held → Stage
  index_of : Schema → Settings → Index → Stage

-- how texts are cut, and what stands on the device
pub record Session : Type 0 where
  pub analysis : Analysis
  pub stage : Stage

-- what an index is made of
abbrev pub configuration_of : Schema → Analyzer → Settings → Configuration
configuration_of schema analyze settings = record { schema = schema; analyze = analyze; similarity = similarity_of settings; docs_per_segment = settings.docs_per_segment }

-- an index without documents
abbrev pub fresh_index : Index
fresh_index = record { state = nothing_yet; status = ready }

-- an index in which these groups are committed
abbrev pub reopened : List (List Document) → Index
reopened groups = record { state = record { groups = groups; pending = [] }; status = ready }

-- ---- what a request asks of the index that stands

-- whether a request asks for what changes nothing
abbrev pub only_asks : Request → Bool
only_asks (search_docs d k) = true
only_asks (count_docs d) = true
only_asks _ = false

-- the call of a request, or why none can be read
abbrev pub call_in : Schema → Request → Result Call Fault
call_in schema (add_doc d) = Ok (add_value d)
call_in schema (delete_docs d) = ok_or (option_map delete_term (term_in schema d)) faults.BadTerm
call_in schema (merge_groups from to) = Ok (merge_range from to)
call_in schema commit_all = Ok commit_pending
call_in schema (search_docs d k) = ok_or (option_map (λ q. search_best q k) (query_in schema d)) faults.BadQuery
call_in schema (count_docs d) = ok_or (option_map count_all (query_in schema d)) faults.BadQuery
call_in schema _ = Err faults.BadRequest

-- ---- one request

-- what a call that isn't refused is answered
abbrev pub answer_reply : Configuration → State → Call → json.Data
answer_reply c s (search_best q k) = hits_reply (scan c.schema c.analyze c.similarity (committed s) q k)
answer_reply c s (count_all q) = count_reply (scan_count c.schema c.analyze (committed s) q)
answer_reply c s call = ok_reply

-- a refusal, after which all stands as before
abbrev pub refusing : {S : Type 0} → Fault → S → json.Data × S
refusing fault s = (error_reply fault, s)

-- the refusal where there is one, and else what comes then
abbrev pub refused_or : {S : Type 0} → Option Fault → S → json.Data × S → json.Data × S
refused_or (Some fault) s then_this = refusing fault s
refused_or None s then_this = then_this

-- a call that can be made, and what it leaves
abbrev pub answering : Configuration → Index → Call → json.Data × Index
answering c x call = (answer_reply c x.state call, record { state = after c x.state call; status = x.status })

-- a call's own tests come last
abbrev pub call_step : Configuration → Index → Result Call Fault → json.Data × Index
call_step c x (Err fault) = refusing fault x
call_step c x (Ok call) = refused_or (own_fault c x.state call) x (answering c x call)

-- the index's status comes before anything in the request is read
abbrev pub index_step : Configuration → Index → Request → json.Data × Index
index_step c x r = refused_or (status_fault x.status (only_asks r)) x (call_step c x (call_in c.schema r))

-- ---- an index is made, or opened

-- what the device holds when what stands is dropped: what waits is lost
abbrev pub held_by : Stage → Held
held_by (no_index held) = held
held_by (index_of schema settings x) = file_of schema settings x.state.groups

-- an index is made on a device without a byte
abbrev pub if_empty : Held → Option Fault
if_empty no_file = None
if_empty (file_of schema settings groups) = Some faults.NotEmpty
if_empty (other_bytes bytes fault) = Some faults.NotEmpty

-- an index without documents
abbrev pub created : (List ℕ → Bool) → Schema → Settings → Held → json.Data × Stage
created knows schema settings held = refused_or (option_or (making_fault knows schema settings) (if_empty held)) (no_index held) (ok_reply, index_of schema settings fresh_index)

-- the index of the file, or why there is none
abbrev pub opened : (List ℕ → Bool) → Held → json.Data × Stage
opened knows no_file = refusing faults.NoIndex (no_index no_file)
opened knows (file_of schema settings groups) = if are_analyzed knows schema then (ok_reply, index_of schema settings (reopened groups)) else refusing faults.UnknownTokenizer (no_index (file_of schema settings groups))
opened knows (other_bytes bytes fault) = refusing fault (no_index (other_bytes bytes fault))

-- the settings that are sent, or where none are the defaults
abbrev pub settings_sent : Schema → Option json.Data → Result Settings Fault
settings_sent schema None = Ok default_settings
settings_sent schema (Some d) = ok_or (settings_in schema d) faults.BadSettings

-- what is made of a schema that was read
abbrev pub with_settings : (List ℕ → Bool) → Stage → Schema → Result Settings Fault → json.Data × Stage
with_settings knows stage schema (Ok settings) = created knows schema settings (held_by stage)
with_settings knows stage schema (Err fault) = refusing fault stage

-- the schema is read before the settings, and both before what stands is dropped
abbrev pub with_schema : (List ℕ → Bool) → Stage → Option json.Data → Result Schema Fault → json.Data × Stage
with_schema knows stage d (Ok schema) = with_settings knows stage schema (settings_sent schema d)
with_schema knows stage d (Err fault) = refusing fault stage

-- ---- a line

-- whether every call is taken
abbrev pub takes_calls : Status → Bool
takes_calls ready = true
takes_calls writer_closed = false
takes_calls closed = false

-- whether an index stands that is ready
abbrev pub is_ready : Stage → Bool
is_ready (no_index held) = false
is_ready (index_of schema settings x) = takes_calls x.status

-- while an index is ready no other is made or opened
abbrev pub unless_ready : Stage → json.Data × Stage → json.Data × Stage
unless_ready stage then_this = if is_ready stage then refusing faults.AlreadyOpen stage else then_this

-- what is asked of the index that stands
abbrev pub in_index : Analyzer → Stage → Request → json.Data × Stage
in_index analyze (no_index held) r = refusing faults.NotOpen (no_index held)
in_index analyze (index_of schema settings x) r = let p = index_step (configuration_of schema analyze settings) x r in (p.0, index_of schema settings p.1)

-- the reply to a request, and what stands after it
abbrev pub stage_step : Analysis → Stage → Request → json.Data × Stage
stage_step a stage (create_index d more) = unless_ready stage (with_schema a.knows stage more (schema_in d))
stage_step a stage open_index = unless_ready stage (opened a.knows (held_by stage))
stage_step a stage r = in_index a.analyze stage r

-- the reply to what a line says, and the session after it
abbrev pub step : Session → Option Request → json.Data × Session
step session None = refusing faults.BadRequest session
step session (Some r) = let p = stage_step session.analysis session.stage r in (p.0, record session { stage = p.1 })

-- ---- lines

-- what a text says: JSON of a request
abbrev pub line_request : List ℕ → Option Request
line_request line = read line >>= request_in

-- the reply to a line that is a text, without its newline
abbrev pub answer_of : Session → List ℕ → List ℕ
answer_of session line = reply_of ((step session (line_request line)).0)

-- the session after a line
abbrev pub after_line : Session → List ℕ → Session
after_line session line = (step session (line_request line)).1
