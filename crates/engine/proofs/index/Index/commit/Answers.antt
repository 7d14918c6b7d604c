use Rattle.std.proofs.Common.{[], Err, List, Ok, Some, ap, false, inl, inr, length, refl, subst, sym, ◌++◌, ◌+◌, ◌<◌, ◌^◌, ◌∙◌, ◌∷◌, ◌≡◌, ◌≢◌, ⊎_elim, ℕ}
use Rattle.definitions.proofs.CallRuns.{started}
use Rattle.definitions.specs.Calls as calls
use Rattle.definitions.specs.declared.fault.Fault.{Fault}
use Rattle.definitions.specs.declared.fault.Fault.TheVariants as faults
use Rattle.index_file.proofs.Faults.{status_left}
use Rattle.index_file.proofs.CallByCall.{resting}
use Rattle.index_state.proofs.Outcomes.{commit_taken, err_same}
use Rattle.index_state.proofs.Shadows.{no_device, not_ok, stopped_then}
use Rattle.index_state.proofs.Standings.{alike_then, alike_then as alike_twice}
use Rattle.index_state.specs.Commits.{frame_in, members_with}
use Rattle.index_state.specs.Records.{RecordsSegments}
use Rattle.index_state.specs.Standing.{Stands, members_of, status_of}
use Rattle.engine.proofs.Commits.{commit_written, records_same, stands_groups}
use Rattle.engine.proofs.FileSayings.{leave_next, leave_same, rests_say}
use Rattle.engine.proofs.ListsLeft.{appends_lists, installs_lists}
use Rattle.engine.proofs.Merges.{limit_told}
use Rattle.engine.proofs.SegmentWrites.{crash_next, crash_same, has_body, rests_next}
use Rattle.engine.specs.Files.{BodiesLeave, LeavesOneOf}
use Rattle.engine.specs.Indexes.{analyzer_of, device_of, gate_of, schema_of, settings_of}
use Rattle.index_file.proofs.ErrorsKept.{err_has}
use Rattle.engine.proofs.index.Index.commit.Goals as goal

pub returns-in_err-prepared-clause-writes : goal.returns-in_err-prepared-clause-writes
returns-in_err-prepared-clause-writes g c k x s = record {
  left = (
      let fault = c.in_err-prepared.field-0.0 in
      subst (λ r. (y : calls.Index) × calls.Leaves k x calls.commit_pending r y × Stands g.A.Analyzer.analyze c.prepare.new.self k y) (err_same c.from_residual.result fault c.from_residual.ensures.1) (c.in_err-prepared.ensures.left k x s));
  exact = (
      let fault = c.in_err-prepared.field-0.0 in
      err_has c.from_residual.result fault (λ f. f ≢ faults.OutOfMemory → f ≢ faults.Device → f ≢ faults.Limit → calls.call_fault k x calls.commit_pending ≡ Some f) c.from_residual.ensures.1
      (λ memory device limit. c.in_err-prepared.ensures.exact k x s memory limit));
  recorded = rw (sym (err_same c.from_residual.result c.in_err-prepared.field-0.0 c.from_residual.ensures.1)) tt;
  appended = λ h. rw (sym (err_same c.from_residual.result c.in_err-prepared.field-0.0 c.from_residual.ensures.1)) tt;
  rests = λ h rests. rw (sym (err_same c.from_residual.result c.in_err-prepared.field-0.0 c.from_residual.ensures.1)) tt;
  any_moment = λ h rests. (
      let d = g.D.Device in
      let old = c.args.self.now in
      let index_state = old.index_state in
      let analyze = g.A.Analyzer.analyze in
      let device = device_of old in
      let says = rests_say index_state.schema index_state.settings (analyze index_state.analyzer) (members_of index_state) x.state.groups (d.content device) (d.unsynced device) (gate_of old) rests (stands_groups analyze index_state k x s) in
      record {
        first = rests.bodies;
        second = rests.bodies;
        says_one = says;
        says_other = inl says;
        images = resting d.moment d.left_since d.content d.unsynced device (gate_of old) rests.bodies rests.bodies rests.at_rest rests.synced (λ image left. g.met.D.Device.only_now device image h left);
      });
  lists = λ h rests leave. (
      let d = g.D.Device in
      let old = c.args.self.now in
      let analyze = g.A.Analyzer.analyze in
      let device = device_of old in
      started d.moment d.left_since device (LeavesOneOf (schema_of old) (settings_of old) (analyze (analyzer_of old)) x.state.groups _)
      (λ image left. inl (leave image (g.met.D.Device.only_now device image h left))));
  installed = λ h rests leave. rw (sym (err_same c.from_residual.result c.in_err-prepared.field-0.0 c.from_residual.ensures.1)) tt;
}

pub returns-in-Ok-clause-writes : goal.returns-in-Ok-clause-writes
returns-in-Ok-clause-writes g c k x s = record {
  left = (
      let call = calls.commit_pending in
      let ready = c.in_ok-prepared.ensures.taken k x s in
      let after = calls.after k x.state call in
      let taken = commit_taken k x (ap (λ status. calls.status_fault status false) ready) in
      (record { state = after; status = calls.ready }, subst (λ status. calls.Leaves k x call (Ok tt) (record { state = after; status = status })) ready (calls.answered taken), c.install.ensures.left k x (c.in_ok-prepared.ensures.prepared k x s)));
  exact = tt;
  recorded = (
      let old = c.args.self.now.index_state in
      let mid = c.prepare.new.self in
      let p = c.in_ok-prepared.prepared in
      let w = commit_written g.A.Analyzer.analyze old mid p k x c.prepare.ensures.made s (c.in_ok-prepared.ensures.prepared k x s) c.in_ok-prepared.ensures.flagged (c.in_ok-prepared.ensures.body k x s) in
      (w.body, records_same k x.state calls.commit_pending (members_of old) (members_with mid p) (members_of c.install.new.self) w.body c.install.ensures.members w.records));
  appended = λ h bodies rest. (
      let old = c.args.self.now.index_state in
      let mid = c.prepare.new.self in
      let p = c.in_ok-prepared.prepared in
      let w = commit_written g.A.Analyzer.analyze old mid p k x c.prepare.ensures.made s (c.in_ok-prepared.ensures.prepared k x s) c.in_ok-prepared.ensures.flagged (c.in_ok-prepared.ensures.body k x s) in
      (w.body, records_same k x.state calls.commit_pending (members_of old) (members_with mid p) (members_of c.install.new.self) w.body c.install.ensures.members w.records, c.in-Ok.ensures.appended bodies w.body h (c.frame.ensures ∙ w.framed) rest));
  rests = λ h rests. (
      let old = c.args.self.now.index_state in
      let mid = c.prepare.new.self in
      let new = c.install.new.self in
      let p = c.in_ok-prepared.prepared in
      let w = commit_written g.A.Analyzer.analyze old mid p k x c.prepare.ensures.made s (c.in_ok-prepared.ensures.prepared k x s) c.in_ok-prepared.ensures.flagged (c.in_ok-prepared.ensures.body k x s) in
      let bodies = rests.bodies ++ w.body ∷ [] in
      let leave : BodiesLeave old.schema old.settings bodies (members_with mid p) = leave_next old.schema old.settings rests.bodies (members_of old) (members_with mid p) w.body rests.leave w.makes in
      let schema : new.schema ≡ old.schema = c.install.ensures.made.schema ∙ c.prepare.ensures.made.schema in
      let settings : new.settings ≡ old.settings = c.install.ensures.made.settings ∙ c.prepare.ensures.made.settings in
      record {
        bodies = bodies;
        at_rest = c.in-Ok.ensures.appended rests.bodies w.body h (c.frame.ensures ∙ w.framed) rests.at_rest;
        leave = leave_same old.schema new.schema old.settings new.settings bodies (members_with mid p) (members_of new) schema settings c.install.ensures.members leave;
        synced = c.in-Ok.ensures.unsynced h;
      });
  any_moment = λ h rests. (
      let d = g.D.Device in
      let analyze = g.A.Analyzer.analyze in
      let old = c.args.self.now.index_state in
      let mid = c.prepare.new.self in
      let device = device_of c.args.self.now in
      let p = c.in_ok-prepared.prepared in
      let w = commit_written analyze old mid p k x c.prepare.ensures.made s (c.in_ok-prepared.ensures.prepared k x s) c.in_ok-prepared.ensures.flagged (c.in_ok-prepared.ensures.body k x s) in
      record {
        first = rests.bodies;
        second = rests.bodies ++ w.body ∷ [];
        says_one = rests_say old.schema old.settings (analyze old.analyzer) (members_of old) x.state.groups (d.content device) (d.unsynced device) (gate_of c.args.self.now) rests (stands_groups analyze old k x s);
        says_other = inr (record { members = members_with mid p; leave = leave_next old.schema old.settings rests.bodies (members_of old) (members_with mid p) w.body rests.leave w.makes; are_groups = w.are_groups });
        images = c.append.ensures.any_moment rests.bodies w.body h (c.frame.ensures ∙ w.framed) rests.at_rest rests.synced;
      });
  lists = λ h rests leave. (
      let old = c.args.self.now in
      let mid = c.prepare.new.self in
      let p = c.in_ok-prepared.prepared in
      let w = commit_written g.A.Analyzer.analyze old.index_state mid p k x c.prepare.ensures.made s (c.in_ok-prepared.ensures.prepared k x s) c.in_ok-prepared.ensures.flagged (c.in_ok-prepared.ensures.body k x s) in
      appends_lists g.A.Analyzer.analyze old c.append.new.self.device (members_with mid p) x.state.groups _ w.body (g.met.D.Device.remains (device_of old) h) rests leave w.makes w.are_groups
      (c.append.ensures.any_moment rests.bodies w.body h (c.frame.ensures ∙ w.framed) rests.at_rest rests.synced));
  installed = λ h rests leave. (
      let old = c.args.self.now in
      let state = c.install.new.self in
      let mid = c.prepare.new.self in
      let p = c.in_ok-prepared.prepared in
      let w = commit_written g.A.Analyzer.analyze old.index_state mid p k x c.prepare.ensures.made s (c.in_ok-prepared.ensures.prepared k x s) c.in_ok-prepared.ensures.flagged (c.in_ok-prepared.ensures.body k x s) in
      installs_lists g.A.Analyzer.analyze old state c.append.new.self.device _ (members_with mid p) x.state.groups _ w.body (g.met.D.Device.remains (device_of old) h) rests leave w.makes w.are_groups (alike_twice old.index_state mid state c.prepare.ensures.made c.install.ensures.made)
      (c.in-Ok.ensures.appended rests.bodies w.body h (c.frame.ensures ∙ w.framed) rests.at_rest) (c.in-Ok.ensures.unsynced h));
}

pub returns-in-Err-clause-writes : goal.returns-in-Err-clause-writes
returns-in-Err-clause-writes g c k x s = record {
  left = (
      let call = calls.commit_pending in
      let analyze = g.A.Analyzer.analyze in
      let ready = c.in_ok-prepared.ensures.taken k x s in
      let taken = commit_taken k x (ap (λ status. calls.status_fault status false) ready) in
      let stopped = c.stop.ensures.left k _ (c.in_ok-prepared.ensures.stopped k x s) in
      let fault = c.in-Err.fault in
      let left : (status : calls.Status) → (f : Fault) → calls.Leaves k x call (Err f) (record { state = x.state; status = status }) → fault ≡ f → status_of c.status_after.result ≡ status → (y : calls.Index) × calls.Leaves k x call (Err fault) y × Stands analyze c.stop.new.self k y =
      λ status f leaves is same. (record { state = x.state; status = status }, subst (λ e. calls.Leaves k x call (Err e) (record { state = x.state; status = status })) (sym is) leaves, subst (λ t. Stands analyze c.stop.new.self k (record { state = x.state; status = t })) same stopped) in
      let after : (f : Fault) → fault ≡ f → status_of c.status_after.result ≡ status_left f = λ f is. c.status_after.ensures ∙ ap status_left is in
      elim c.in-Err.ensures.fault [
        | inl device ↦ left calls.closed faults.Device (calls.device_failed taken refl) device (after faults.Device device)
        | inr limit ↦ left calls.writer_closed faults.Limit (calls.half_written faults.Limit calls.limit_met taken refl) limit (after faults.Limit limit)
      ]);
  exact = (λ memory device limit. elim c.in-Err.ensures.fault [
    | inl failed ↦ absurd (device failed)
    | inr met ↦ absurd (limit met)
  ]);
  recorded = tt;
  appended = λ h. tt;
  rests = λ h rests. tt;
  any_moment = λ h rests. (
      let d = g.D.Device in
      let analyze = g.A.Analyzer.analyze in
      let old = c.args.self.now.index_state in
      let mid = c.prepare.new.self in
      let device = device_of c.args.self.now in
      let p = c.in_ok-prepared.prepared in
      let w = commit_written analyze old mid p k x c.prepare.ensures.made s (c.in_ok-prepared.ensures.prepared k x s) c.in_ok-prepared.ensures.flagged (c.in_ok-prepared.ensures.body k x s) in
      record {
        first = rests.bodies;
        second = rests.bodies ++ w.body ∷ [];
        says_one = rests_say old.schema old.settings (analyze old.analyzer) (members_of old) x.state.groups (d.content device) (d.unsynced device) (gate_of c.args.self.now) rests (stands_groups analyze old k x s);
        says_other = inr (record { members = members_with mid p; leave = leave_next old.schema old.settings rests.bodies (members_of old) (members_with mid p) w.body rests.leave w.makes; are_groups = w.are_groups });
        images = c.append.ensures.any_moment rests.bodies w.body h (c.frame.ensures ∙ w.framed) rests.at_rest rests.synced;
      });
  lists = λ h rests leave. (
      let old = c.args.self.now in
      let mid = c.prepare.new.self in
      let p = c.in_ok-prepared.prepared in
      let w = commit_written g.A.Analyzer.analyze old.index_state mid p k x c.prepare.ensures.made s (c.in_ok-prepared.ensures.prepared k x s) c.in_ok-prepared.ensures.flagged (c.in_ok-prepared.ensures.body k x s) in
      appends_lists g.A.Analyzer.analyze old c.append.new.self.device (members_with mid p) x.state.groups _ w.body (g.met.D.Device.remains (device_of old) h) rests leave w.makes w.are_groups
      (c.append.ensures.any_moment rests.bodies w.body h (c.frame.ensures ∙ w.framed) rests.at_rest rests.synced));
  installed = λ h rests leave. tt;
}

pub returns-in_err-prepared-clause-limit : goal.returns-in_err-prepared-clause-limit
returns-in_err-prepared-clause-limit g c k x s =
    limit_told c.from_residual.result c.in_err-prepared.field-0.0 _ c.from_residual.ensures.1
    (λ limit. elim (c.in_err-prepared.ensures.limit k x s limit) [
      | inl passes ↦ inl passes
      | inr many ↦ inr (inl many)
    ])

pub returns-in-Err-clause-limit : goal.returns-in-Err-clause-limit
returns-in-Err-clause-limit g c k x s limit =
    let old = c.args.self.now.index_state in
    let mid = c.prepare.new.self in
    let p = c.in_ok-prepared.prepared in
    let w = commit_written g.A.Analyzer.analyze old mid p k x c.prepare.ensures.made s (c.in_ok-prepared.ensures.prepared k x s) c.in_ok-prepared.ensures.flagged (c.in_ok-prepared.ensures.body k x s) in
    inr (inr (members_with mid p, w.body, w.records, subst (λ (bytes : List ℕ). 2 ^ 63 < gate_of c.args.self.now + 1 + length bytes) (c.frame.ensures ∙ w.framed) (c.append.ensures.limit.0 (c.in-Err.is ∙ limit))))

-- ---- of any index

pub returns-in_err-prepared-clause-segments : goal.returns-in_err-prepared-clause-segments
returns-in_err-prepared-clause-segments g c =
    record {
      recorded = not_ok c.from_residual.result c.in_err-prepared.field-0.0 _ c.from_residual.ensures.1;
      appended = λ h. not_ok c.from_residual.result c.in_err-prepared.field-0.0 _ c.from_residual.ensures.1;
      rests = λ h rests. not_ok c.from_residual.result c.in_err-prepared.field-0.0 _ c.from_residual.ensures.1;
      any_moment = λ h rests. (members_of c.args.self.now.index_state, inl refl, not_ok c.from_residual.result c.in_err-prepared.field-0.0 _ c.from_residual.ensures.1, crash_same c.args.self.now (λ image left. g.met.D.Device.only_now (device_of c.args.self.now) image h left) rests);
    }

pub returns-in_err-prepared-clause-refused : goal.returns-in_err-prepared-clause-refused
returns-in_err-prepared-clause-refused g c k x s =
    err_has c.from_residual.result c.in_err-prepared.field-0.0 (λ f. f ≢ faults.OutOfMemory → f ≢ faults.Device → f ≢ faults.Limit → calls.call_fault k x calls.commit_pending ≡ Some f) c.from_residual.ensures.1 (λ memory device limit. c.in_err-prepared.ensures.refused k x s memory limit)

pub returns-in_err-prepared-clause-admitted : goal.returns-in_err-prepared-clause-admitted
returns-in_err-prepared-clause-admitted g c k x s =
    not_ok c.from_residual.result c.in_err-prepared.field-0.0 _ c.from_residual.ensures.1

pub returns-in_err-prepared-clause-same : goal.returns-in_err-prepared-clause-same
returns-in_err-prepared-clause-same g c =
    err_has c.from_residual.result c.in_err-prepared.field-0.0 _ c.from_residual.ensures.1 (λ memory device limit. c.in_err-prepared.ensures.same memory limit)

pub returns-in_err-prepared-clause-half_way : goal.returns-in_err-prepared-clause-half_way
returns-in_err-prepared-clause-half_way g c =
    err_has c.from_residual.result c.in_err-prepared.field-0.0 _ c.from_residual.ensures.1 c.in_err-prepared.ensures.half_way

pub returns-in_err-prepared-clause-failed : goal.returns-in_err-prepared-clause-failed
returns-in_err-prepared-clause-failed g c =
    err_has c.from_residual.result c.in_err-prepared.field-0.0 _ c.from_residual.ensures.1 (λ device. absurd (no_device c.in_err-prepared.field-0.0 c.in_err-prepared.ensures.fault device))

pub returns-in_err-prepared-clause-idle : goal.returns-in_err-prepared-clause-idle
returns-in_err-prepared-clause-idle g c =
    not_ok c.from_residual.result c.in_err-prepared.field-0.0 _ c.from_residual.ensures.1

pub returns-in-Ok-clause-segments : goal.returns-in-Ok-clause-segments
returns-in-Ok-clause-segments g c =
    let old = c.args.self.now in
    let mid = c.prepare.new.self in
    let p = c.in_ok-prepared.prepared in
    let after = members_with mid p in
    let w = has_body (schema_of old) calls.commit_pending (members_of old.index_state) after (frame_in p) c.in_ok-prepared.ensures.records in
    let same : members_of c.install.new.self ≡ after = c.install.ensures.members in
    let records = subst (λ ms. RecordsSegments (schema_of old) calls.commit_pending (members_of old.index_state) ms w.body) (sym same) (w.makes, w.over) in
    record {
      recorded = (w.body, records);
      appended = λ h bodies rest. (w.body, records, c.in-Ok.ensures.appended bodies w.body h (c.frame.ensures ∙ w.framed) rest);
      rests = λ h rests. rests_next old calls.commit_pending after (frame_in p) w (record { index_state = c.install.new.self; file = c.append.new.self }) (alike_then old.index_state mid c.install.new.self c.prepare.ensures.made c.install.ensures.made) same (c.in-Ok.ensures.unsynced h)
          (λ bodies rest. c.in-Ok.ensures.appended bodies w.body h (c.frame.ensures ∙ w.framed) rest) rests;
      any_moment = λ h rests. (after, inr (w.body, (w.makes, w.over)), sym same, crash_next old calls.commit_pending after (frame_in p) w c.append.new.self.device (λ bodies rest synced. c.append.ensures.any_moment bodies w.body h (c.frame.ensures ∙ w.framed) rest synced) rests);
    }

pub returns-in-Ok-clause-admitted : goal.returns-in-Ok-clause-admitted
returns-in-Ok-clause-admitted g c k x s =
    c.in_ok-prepared.ensures.admitted k x s

pub returns-in-Ok-clause-idle : goal.returns-in-Ok-clause-idle
returns-in-Ok-clause-idle g c =
    c.install.ensures.idle

pub returns-in-Err-clause-segments : goal.returns-in-Err-clause-segments
returns-in-Err-clause-segments g c =
    let old = c.args.self.now in
    let mid = c.prepare.new.self in
    let p = c.in_ok-prepared.prepared in
    let after = members_with mid p in
    let w = has_body (schema_of old) calls.commit_pending (members_of old.index_state) after (frame_in p) c.in_ok-prepared.ensures.records in
    record {
      recorded = tt;
      appended = λ h. tt;
      rests = λ h rests. tt;
      any_moment = λ h rests. (after, inr (w.body, (w.makes, w.over)), tt, crash_next old calls.commit_pending after (frame_in p) w c.append.new.self.device (λ bodies rest synced. c.append.ensures.any_moment bodies w.body h (c.frame.ensures ∙ w.framed) rest synced) rests);
    }

pub returns-in-Err-clause-refused : goal.returns-in-Err-clause-refused
returns-in-Err-clause-refused g c k x s memory device limit =
    elim c.in-Err.ensures.fault [
      | inl failed ↦ absurd (device failed)
      | inr met ↦ absurd (limit met)
    ]

pub returns-in-Err-clause-same : goal.returns-in-Err-clause-same
returns-in-Err-clause-same g c memory device limit =
    elim c.in-Err.ensures.fault [
      | inl failed ↦ absurd (device failed)
      | inr met ↦ absurd (limit met)
    ]

pub returns-in-Err-clause-half_way : goal.returns-in-Err-clause-half_way
returns-in-Err-clause-half_way g c want =
    let old = c.args.self.now.index_state in
    let left : (f : Fault) → c.in-Err.fault ≡ f → status_of c.status_after.result ≡ status_left f = λ f is. c.status_after.ensures ∙ ap status_left is in
    let closed : status_of c.status_after.result ≡ calls.writer_closed = ⊎_elim (λ memory. left faults.OutOfMemory memory) (λ limit. left faults.Limit limit) want in
    stopped_then calls.writer_closed (status_of c.status_after.result) calls.writer_closed old c.prepare.new.self c.stop.new.self c.in_ok-prepared.ensures.begun c.stop.ensures.stopped closed

pub returns-in-Err-clause-failed : goal.returns-in-Err-clause-failed
returns-in-Err-clause-failed g c device =
    let old = c.args.self.now.index_state in
    let closed : status_of c.status_after.result ≡ calls.closed = c.status_after.ensures ∙ ap status_left device in
    stopped_then calls.writer_closed (status_of c.status_after.result) calls.closed old c.prepare.new.self c.stop.new.self c.in_ok-prepared.ensures.begun c.stop.ensures.stopped closed
