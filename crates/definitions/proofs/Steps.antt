-- A request that is read does what its call does.
use Rattle.std.proofs.Common.{List, ℕ, ◌∙◌, ◌≡◌, Bool, Err, None, Ok, Option, Result, Some, ap, ap₂, cond, false, is_some, ok_or, option_map, refl, subst, true, true≢false, unwrap_or}
use Rattle.std.specs.Prelude.{⊤}
use Rattle.definitions.specs.Calls.{Call, Configuration, Index, Status, call_fault, count_all, delete_term, only_reads, own_fault, search_best, status_fault}
use Rattle.std.specs.Option.{option_or}
use Rattle.definitions.specs.QueryGrammar.{query_in}
use Rattle.definitions.specs.Requests.{Request, add_doc, commit_all, count_docs, create_index, delete_docs, merge_groups, open_index, search_docs}
use Rattle.definitions.specs.Scanning.{scan}
use Rattle.definitions.specs.Schema.{Schema}
use Rattle.definitions.specs.State.{State, committed}
use Rattle.definitions.specs.Analyzers.{Analyzer}
use Rattle.definitions.specs.Making.{are_analyzed, making_fault}
use Rattle.definitions.specs.Replies.{ok_reply}
use Rattle.definitions.specs.SchemaGrammar.{schema_in}
use Rattle.definitions.specs.Settings.{Settings}
use Rattle.definitions.specs.Step.{Analysis, Held, Session, Stage, answer_reply, answering, call_in, call_step, configuration_of, created, file_of, fresh_index, held_by, if_empty, in_index, index_of, index_step, is_ready, no_file, no_index, only_asks, opened, other_bytes, refused_or, refusing, reopened, settings_sent, stage_step, step, unless_ready, with_schema, with_settings}
use Rattle.definitions.specs.TermGrammar.{term_in}
use Rattle.definitions.proofs.ReplyTexts.{hits_float}
use Rattle.definitions.specs.declared.fault.Fault.{Fault}
use Rattle.serde_json.specs.Written.{has_float}
use Rattle.serde_json.specs.Data as json
use Rattle.definitions.specs.declared.fault.Fault.TheVariants as faults

-- what is read of a request reads as this says
abbrev ReadsAs : Bool → Result Call Fault → Type 0
ReadsAs reads (Ok call) = reads ≡ only_reads call
ReadsAs reads (Err fault) = ⊤

-- a request's call reads where the request only asks
reads_alike : (schema : Schema) (r : Request) → ReadsAs (only_asks r) (call_in schema r)
reads_alike schema (add_doc d) = refl
reads_alike schema (delete_docs d) = elim (term_in schema d) as (λ o. ReadsAs false (ok_or (option_map delete_term o) faults.BadTerm)) [ Some t ↦ refl | None ↦ tt ]
reads_alike schema (merge_groups from to) = refl
reads_alike schema commit_all = refl
reads_alike schema (search_docs d k) = elim (query_in schema d) as (λ o. ReadsAs true (ok_or (option_map (λ q. search_best q k) o) faults.BadQuery)) [ Some q ↦ refl | None ↦ tt ]
reads_alike schema (count_docs d) = elim (query_in schema d) as (λ o. ReadsAs true (ok_or (option_map count_all o) faults.BadQuery)) [ Some q ↦ refl | None ↦ tt ]
reads_alike schema (create_index s t) = tt
reads_alike schema open_index = tt

-- a status refuses a request as it refuses its call
pub refused_alike : (schema : Schema) (status : Status) (r : Request) (call : Call) → call_in schema r ≡ Ok call → status_fault status (only_asks r) ≡ status_fault status (only_reads call)
refused_alike schema status r call h = ap (status_fault status) (subst (ReadsAs (only_asks r)) h (reads_alike schema r))

-- the first refusal of two is what is replied
refused_by : (c : Configuration) (x : Index) (call : Call) (status own : Option Fault) (fault : Fault) → option_or status own ≡ Some fault → refused_or status x (refused_or own x (answering c x call)) ≡ refusing fault x
refused_by c x call (Some first) own fault h = ap (λ o. refusing (unwrap_or o fault) x) h
refused_by c x call None own fault h = ap (λ o. refused_or o x (answering c x call)) h

-- where neither refuses, the call is made
answered_by : (c : Configuration) (x : Index) (call : Call) (status own : Option Fault) → option_or status own ≡ None → refused_or status x (refused_or own x (answering c x call)) ≡ answering c x call
answered_by c x call (Some first) own h = absurd (true≢false (ap is_some h))
answered_by c x call None own h = ap (λ o. refused_or o x (answering c x call)) h

-- a request is its call, with the status that this one meets
read_step : (c : Configuration) (x : Index) (r : Request) (call : Call) → call_in c.schema r ≡ Ok call → index_step c x r ≡ refused_or (status_fault x.status (only_reads call)) x (call_step c x (Ok call))
read_step c x r call h = ap₂ (λ o read. refused_or o x (call_step c x read)) (refused_alike c.schema x.status r call h) h

-- a request that is read is refused as its call is
pub refused_call : (c : Configuration) (x : Index) (r : Request) (call : Call) (fault : Fault) → call_in c.schema r ≡ Ok call → call_fault c x call ≡ Some fault → index_step c x r ≡ refusing fault x
refused_call c x r call fault h e = read_step c x r call h ∙ refused_by c x call (status_fault x.status (only_reads call)) (own_fault c x.state call) fault e

-- a request that is read and not refused is answered as its call
pub answered_call : (c : Configuration) (x : Index) (r : Request) (call : Call) → call_in c.schema r ≡ Ok call → call_fault c x call ≡ None → index_step c x r ≡ answering c x call
answered_call c x r call h e = read_step c x r call h ∙ answered_by c x call (status_fault x.status (only_reads call)) (own_fault c x.state call) e

-- a request that can't be read is refused by that, unless the status refuses it
pub unread_call : (c : Configuration) (x : Index) (r : Request) (fault : Fault) → call_in c.schema r ≡ Err fault → status_fault x.status (only_asks r) ≡ None → index_step c x r ≡ refusing fault x
unread_call c x r fault h e = ap₂ (λ o read. refused_or o x (call_step c x read)) e h

-- ---- no reply has a float

-- what a call is answered has no float
answer_float : (c : Configuration) (s : State) (call : Call) → has_float (answer_reply c s call) ≡ false
answer_float c s (search_best q k) = hits_float (scan c.schema c.analyze c.similarity (committed s) q k)
answer_float c s _ = refl

-- a refusal has no float, nor has what comes without one
refused_or_float : {S : Type 0} (o : Option Fault) (s : S) (next : json.Data × S) → has_float next.0 ≡ false → has_float ((refused_or o s next).0) ≡ false
refused_or_float (Some fault) s next h = refl
refused_or_float None s next h = h

call_step_float : (c : Configuration) (x : Index) (read : Result Call Fault) → has_float ((call_step c x read).0) ≡ false
call_step_float c x (Err fault) = refl
call_step_float c x (Ok call) = refused_or_float (own_fault c x.state call) x (answering c x call) (answer_float c x.state call)

index_step_float : (c : Configuration) (x : Index) (r : Request) → has_float ((index_step c x r).0) ≡ false
index_step_float c x r = refused_or_float (status_fault x.status (only_asks r)) x (call_step c x (call_in c.schema r)) (call_step_float c x (call_in c.schema r))

in_index_float : (analyze : Analyzer) (stage : Stage) (r : Request) → has_float ((in_index analyze stage r).0) ≡ false
in_index_float analyze (no_index held) r = refl
in_index_float analyze (index_of schema settings x) r = index_step_float (configuration_of schema analyze settings) x r

created_float : (knows : List ℕ → Bool) (schema : Schema) (settings : Settings) (held : Held) → has_float ((created knows schema settings held).0) ≡ false
created_float knows schema settings held = refused_or_float (option_or (making_fault knows schema settings) (if_empty held)) (no_index held) (ok_reply, index_of schema settings fresh_index) refl

-- neither of two replies has a float
either_float : {S : Type 0} (test : Bool) (one other : json.Data × S) → has_float one.0 ≡ false → has_float other.0 ≡ false → has_float ((cond test one other).0) ≡ false
either_float true one other h k = h
either_float false one other h k = k

opened_float : (knows : List ℕ → Bool) (held : Held) → has_float ((opened knows held).0) ≡ false
opened_float knows no_file = refl
opened_float knows (file_of schema settings groups) = either_float (are_analyzed knows schema) (ok_reply, index_of schema settings (reopened groups)) (refusing faults.UnknownTokenizer (no_index (file_of schema settings groups))) refl refl
opened_float knows (other_bytes bytes fault) = refl

with_settings_float : (knows : List ℕ → Bool) (stage : Stage) (schema : Schema) (settings : Result Settings Fault) → has_float ((with_settings knows stage schema settings).0) ≡ false
with_settings_float knows stage schema (Ok settings) = created_float knows schema settings (held_by stage)
with_settings_float knows stage schema (Err fault) = refl

with_schema_float : (knows : List ℕ → Bool) (stage : Stage) (more : Option json.Data) (schema : Result Schema Fault) → has_float ((with_schema knows stage more schema).0) ≡ false
with_schema_float knows stage more (Ok schema) = with_settings_float knows stage schema (settings_sent schema more)
with_schema_float knows stage more (Err fault) = refl

unless_ready_float : (stage : Stage) (next : json.Data × Stage) → has_float next.0 ≡ false → has_float ((unless_ready stage next).0) ≡ false
unless_ready_float stage next h = either_float (is_ready stage) (refusing faults.AlreadyOpen stage) next refl h

stage_step_float : (a : Analysis) (stage : Stage) (r : Request) → has_float ((stage_step a stage r).0) ≡ false
stage_step_float a stage (create_index d more) = unless_ready_float stage (with_schema a.knows stage more (schema_in d)) (with_schema_float a.knows stage more (schema_in d))
stage_step_float a stage open_index = unless_ready_float stage (opened a.knows (held_by stage)) (opened_float a.knows (held_by stage))
stage_step_float a stage (add_doc d) = in_index_float a.analyze stage (add_doc d)
stage_step_float a stage (delete_docs d) = in_index_float a.analyze stage (delete_docs d)
stage_step_float a stage (merge_groups from to) = in_index_float a.analyze stage (merge_groups from to)
stage_step_float a stage commit_all = in_index_float a.analyze stage commit_all
stage_step_float a stage (search_docs d k) = in_index_float a.analyze stage (search_docs d k)
stage_step_float a stage (count_docs d) = in_index_float a.analyze stage (count_docs d)

-- no reply has a float, so its text is what is written
pub step_float : (session : Session) (r : Option Request) → has_float ((step session r).0) ≡ false
step_float session None = refl
step_float session (Some r) = stage_step_float session.analysis session.stage r
