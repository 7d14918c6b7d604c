-- What an index has in its file, as requests are answered.
use Rattle.std.proofs.Common.{Err, IfErr, IsTrue, None, Ok, OnOk, Option, Result, Some, false, length, ok_or, option_map, refl, subst, sym, ◌∙◌, ◌≡◌, ◌≢◌, ℕ}
use Rattle.std.specs.Bool.{⊤}
use Rattle.common.specs.declared.analyzer.Analyzer as analyzers
use Rattle.common.specs.declared.device.Device as devices
use Rattle.definitions.specs.Analyzers.{Analyzer}
use Rattle.definitions.specs.QueryGrammar.{query_in}
use Rattle.definitions.specs.Calls as calls
use Rattle.definitions.specs.Disk.{settled}
use Rattle.definitions.specs.Query.{Query}
use Rattle.definitions.specs.Replying.{stops}
use Rattle.definitions.specs.Requests as requests
use Rattle.definitions.specs.Step as steps
use Rattle.definitions.specs.declared.fault.Fault.{Fault}
use Rattle.definitions.specs.declared.fault.Fault.TheVariants as faults
use Rattle.definitions.proofs.Steps.{answered_call, refused_call}
use Rattle.engine.specs.Indexes.{IndexRests, IndexStands, IsInFile, KeepsFile, KeepsMaking, device_of, gate_of, members_of, schema_of, settings_of}
use Rattle.engine.specs.declared.index.Index.{Index}
use Rattle.engine.proofs.FileSayings.{leave_same}
use Rattle.index.specs.Replying.{GoesOn}
use Rattle.index.proofs.Answering.{answered_leaves, going_on}
use Rattle.layouts.specs.RecordFiles.{IsAtRest}
use Rattle.serde_json.specs.Data as json

-- ---- what a step leaves committed

refused_or_keeps : {X : Type 0} (f : calls.Index → X) (o : Option Fault) (x : calls.Index) (p : json.Data × calls.Index) → f p.1 ≡ f x → f ((steps.refused_or o x p).1) ≡ f x
refused_or_keeps f None x p is = is
refused_or_keeps f (Some fault) x p is = refl

refused_or_status : (o : Option Fault) (x : calls.Index) (p : json.Data × calls.Index) → p.1.status ≡ x.status → (steps.refused_or o x p).1.status ≡ x.status
refused_or_status o x p is = refused_or_keeps (λ y. y.status) o x p is

call_status : (c : calls.Configuration) (x : calls.Index) (call : Result calls.Call Fault) → (steps.call_step c x call).1.status ≡ x.status
call_status c x (Err fault) = refl
call_status c x (Ok call) = refused_or_status (calls.own_fault c x.state call) x (steps.answering c x call) refl

-- no request changes a status
pub step_status : (c : calls.Configuration) (x : calls.Index) (r : requests.Request) → (steps.index_step c x r).1.status ≡ x.status
step_status c x r = refused_or_status (calls.status_fault x.status (steps.only_asks r)) x (steps.call_step c x (steps.call_in c.schema r)) (call_status c x (steps.call_in c.schema r))

-- a search changes nothing
pub searched_still : (c : calls.Configuration) (x : calls.Index) (d : json.Data) (k : ℕ) → (steps.index_step c x (requests.search_docs d k)).1 ≡ x
searched_still c x d k = refused_or_keeps (λ y. y) (calls.status_fault x.status (steps.only_asks (requests.search_docs d k))) x (steps.call_step c x (steps.call_in c.schema (requests.search_docs d k))) (read (query_in c.schema d))
  where
    read : (o : Option Query) → (steps.call_step c x (ok_or (option_map (λ q. calls.search_best q k) o) faults.BadQuery)).1 ≡ x
    read None = refl
    read (Some q) = refused_or_keeps (λ y. y) (calls.own_fault c x.state (calls.search_best q k)) x (steps.answering c x (calls.search_best q k)) refl

-- nor does a count
pub counted_still : (c : calls.Configuration) (x : calls.Index) (d : json.Data) → (steps.index_step c x (requests.count_docs d)).1 ≡ x
counted_still c x d = refused_or_keeps (λ y. y) (calls.status_fault x.status (steps.only_asks (requests.count_docs d))) x (steps.call_step c x (steps.call_in c.schema (requests.count_docs d))) (read (query_in c.schema d))
  where
    read : (o : Option Query) → (steps.call_step c x (ok_or (option_map calls.count_all o) faults.BadQuery)).1 ≡ x
    read None = refl
    read (Some q) = refused_or_keeps (λ y. y) (calls.own_fault c x.state (calls.count_all q)) x (steps.answering c x (calls.count_all q)) refl

-- ---- what the file has

module _ {D A : Type 0} {d : devices.Ghosts D} {an : analyzers.Ghosts A} where
  -- where device and gate are as before, the file rests as before
  rests_still : (old new : Index D A d an) → KeepsMaking old new → KeepsFile old new → IndexRests old → IndexRests new
  rests_still old new made file rests = record {
    bodies = rests.bodies;
    at_rest = subst (λ (n : ℕ). IsAtRest (d.content (device_of new)) n rests.bodies) (sym file.1) (subst (λ (e : D). IsAtRest (d.content e) (gate_of old) rests.bodies) (sym file.0) rests.at_rest);
    leave = leave_same (schema_of old) (schema_of new) (settings_of old) (settings_of new) rests.bodies (members_of old) (members_of new) made.schema made.settings file.2 rests.leave;
    synced = subst (λ (e : D). d.unsynced e ≡ settled (length (d.content e))) (sym file.0) rests.synced;
  }

  -- and what was in the file is in it
  pub in_file_still : (old new : Index D A d an) (x y : calls.Index) → KeepsMaking old new → KeepsFile old new → y.status ≡ x.status → IsInFile old x → IsInFile new y
  in_file_still old new x y made file status is honest ready =
      rests_still old new made file (is (subst (λ (e : D). IsTrue (d.honest e)) file.0 honest) (sym status ∙ ready))

  -- after a merge or a commit the file has what is committed then
  pub written_in_file : {Z : Type 0} (analyze : A → Analyzer) (old new : Index D A d an) (r : requests.Request) (call : calls.Call) (change : Result ⊤ Fault) (result : Result Z Fault) (c : calls.Configuration) (x : calls.Index)
      → steps.call_in c.schema r ≡ Ok call
      → (y : calls.Index) × calls.Leaves c x call change y × IndexStands analyze new c y
      → IfErr change (λ fault. stops fault ≡ false → calls.call_fault c x call ≡ Some fault)
      → KeepsMaking old new → d.honest (device_of new) ≡ d.honest (device_of old)
      → IfErr change (λ fault. fault ≢ faults.Device → KeepsFile old new)
      → (IsTrue (d.honest (device_of old)) → IndexRests old → OnOk change (IndexRests new))
      → OnOk result (GoesOn change) → IsInFile old x → OnOk result (IsInFile new ((steps.index_step c x r).1))
  written_in_file analyze old new r call change (Err e) c x read left exact made honest kept rests on is = tt
  written_in_file analyze old new r call (Ok u) (Ok z) c x read (y, left, stands) exact made honest kept rests on is =
      let told = answered_leaves c x y call left in
      let step = answered_call c x r call read told.0 in
      subst (λ (p : json.Data × calls.Index). IsInFile new p.1) (sym step)
      (λ is_honest ready. let before = subst (λ b. IsTrue b) honest is_honest in rests before (is before ready))
  written_in_file analyze old new r call (Err fault) (Ok z) c x read left exact made honest kept rests on is =
      let step = refused_call c x r call fault read (exact on) in
      subst (λ (p : json.Data × calls.Index). IsInFile new p.1) (sym step)
      (in_file_still old new x x made (kept (going_on fault faults.Device on refl)) refl is)
