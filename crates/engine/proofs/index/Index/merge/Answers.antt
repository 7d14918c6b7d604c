use Rattle.std.proofs.Common.{[], Err, List, None, Some, ap, inl, inr, length, refl, subst, sym, ◌++◌, ◌+◌, ◌<◌, ◌^◌, ◌∙◌, ◌∷◌, ◌≡◌, ◌≢◌, ◌⊎◌, ℕ}
use Rattle.definitions.proofs.CallRuns.{started}
use Rattle.definitions.specs.Calls as calls
use Rattle.definitions.specs.declared.fault.Fault.TheVariants as faults
use Rattle.index_file.proofs.CallByCall.{resting}
use Rattle.index_state.proofs.Outcomes.{err_same}
use Rattle.index_state.proofs.Shadows.{not_ok}
use Rattle.index_state.specs.Merges.{members_merged, merge_frame_in}
use Rattle.index_state.specs.Records.{RecordsSegments}
use Rattle.index_state.specs.Standing.{members_of}
use Rattle.engine.proofs.Commits.{records_same, stands_groups}
use Rattle.engine.proofs.FileSayings.{leave_next, leave_same, rests_say}
use Rattle.engine.proofs.ListsLeft.{appends_lists, installs_lists}
use Rattle.engine.proofs.Merges.{limit_told, merge_written}
use Rattle.engine.proofs.SegmentWrites.{crash_next, crash_same, has_body, rests_next}
use Rattle.engine.specs.Files.{BodiesLeave, LeavesOneOf}
use Rattle.engine.specs.Indexes.{analyzer_of, device_of, gate_of, schema_of, settings_of}
use Rattle.index_file.proofs.ErrorsKept.{err_has}
use Rattle.engine.proofs.index.Index.merge.Goals as goal

pub returns-in_err-prepared-clause-writes : goal.returns-in_err-prepared-clause-writes
returns-in_err-prepared-clause-writes g c k x s = record {
  left = (
      let call = calls.merge_range c.args.range.start c.args.range.end in
      let fault = c.in_err-prepared.field-0.0 in
      (x, subst (λ r. calls.Leaves k x call r x) (err_same c.from_residual.result fault c.from_residual.ensures.1) (c.in_err-prepared.ensures.left k x s), s));
  exact = (
      let fault = c.in_err-prepared.field-0.0 in
      err_has c.from_residual.result fault (λ f. f ≢ faults.OutOfMemory → f ≢ faults.Device → f ≢ faults.Limit → calls.call_fault k x (calls.merge_range c.args.range.start c.args.range.end) ≡ Some f) c.from_residual.ensures.1
      (λ memory device limit. c.in_err-prepared.ensures.exact k x s memory limit));
  recorded = rw (sym (err_same c.from_residual.result c.in_err-prepared.field-0.0 c.from_residual.ensures.1)) tt;
  appended = λ h. rw (sym (err_same c.from_residual.result c.in_err-prepared.field-0.0 c.from_residual.ensures.1)) tt;
  rests = λ h rests. rw (sym (err_same c.from_residual.result c.in_err-prepared.field-0.0 c.from_residual.ensures.1)) tt;
  any_moment = λ h rests. (
      let d = g.D.Device in
      let old = c.args.self.now in
      let index_state = old.index_state in
      let analyze = g.A.Analyzer.analyze in
      let device = device_of old in
      let says = rests_say index_state.schema index_state.settings (analyze index_state.analyzer) (members_of index_state) x.state.groups (d.content device) (d.unsynced device) (gate_of old) rests (stands_groups analyze index_state k x s) in
      record {
        first = rests.bodies;
        second = rests.bodies;
        says_one = says;
        says_other = inl says;
        images = resting d.moment d.left_since d.content d.unsynced device (gate_of old) rests.bodies rests.bodies rests.at_rest rests.synced (λ image left. g.met.D.Device.only_now device image h left);
      });
  lists = λ h rests leave. (
      let d = g.D.Device in
      let old = c.args.self.now in
      let analyze = g.A.Analyzer.analyze in
      let device = device_of old in
      started d.moment d.left_since device (LeavesOneOf (schema_of old) (settings_of old) (analyze (analyzer_of old)) x.state.groups _)
      (λ image left. inl (leave image (g.met.D.Device.only_now device image h left))));
  installed = λ h rests leave. rw (sym (err_same c.from_residual.result c.in_err-prepared.field-0.0 c.from_residual.ensures.1)) tt;
}

pub returns-in-Ok-clause-writes : goal.returns-in-Ok-clause-writes
returns-in-Ok-clause-writes g c k x s = record {
  left = (
      let from = c.args.range.start in
      let to = c.args.range.end in
      let call = calls.merge_range from to in
      (record { state = calls.after k x.state call; status = x.status }, calls.answered (c.in_ok-prepared.ensures.taken k x s), c.install_merge.ensures.left k x from to s (c.in_ok-prepared.ensures.joins k x s)));
  exact = tt;
  recorded = (
      let old = c.args.self.now.index_state in
      let p = c.in_ok-prepared.prepared in
      let w = merge_written g.A.Analyzer.analyze old p k x c.args.range.start c.args.range.end s (c.in_ok-prepared.ensures.joins k x s) (c.in_ok-prepared.ensures.body k x s) in
      (w.body, records_same k x.state (calls.merge_range c.args.range.start c.args.range.end) (members_of old) (members_merged old p) (members_of c.install_merge.new.self) w.body c.install_merge.ensures.members w.records));
  appended = λ h bodies rest. (
      let old = c.args.self.now.index_state in
      let p = c.in_ok-prepared.prepared in
      let w = merge_written g.A.Analyzer.analyze old p k x c.args.range.start c.args.range.end s (c.in_ok-prepared.ensures.joins k x s) (c.in_ok-prepared.ensures.body k x s) in
      (w.body, records_same k x.state (calls.merge_range c.args.range.start c.args.range.end) (members_of old) (members_merged old p) (members_of c.install_merge.new.self) w.body c.install_merge.ensures.members w.records, c.in-Ok.ensures.appended bodies w.body h (c.frame.ensures ∙ w.framed) rest));
  rests = λ h rests. (
      let old = c.args.self.now.index_state in
      let new = c.install_merge.new.self in
      let p = c.in_ok-prepared.prepared in
      let w = merge_written g.A.Analyzer.analyze old p k x c.args.range.start c.args.range.end s (c.in_ok-prepared.ensures.joins k x s) (c.in_ok-prepared.ensures.body k x s) in
      let bodies = rests.bodies ++ w.body ∷ [] in
      let leave : BodiesLeave old.schema old.settings bodies (members_merged old p) = leave_next old.schema old.settings rests.bodies (members_of old) (members_merged old p) w.body rests.leave w.makes in
      record {
        bodies = bodies;
        at_rest = c.in-Ok.ensures.appended rests.bodies w.body h (c.frame.ensures ∙ w.framed) rests.at_rest;
        leave = leave_same old.schema new.schema old.settings new.settings bodies (members_merged old p) (members_of new) c.install_merge.ensures.made.schema c.install_merge.ensures.made.settings c.install_merge.ensures.members leave;
        synced = c.in-Ok.ensures.unsynced h;
      });
  any_moment = λ h rests. (
      let d = g.D.Device in
      let analyze = g.A.Analyzer.analyze in
      let old = c.args.self.now.index_state in
      let device = device_of c.args.self.now in
      let p = c.in_ok-prepared.prepared in
      let w = merge_written analyze old p k x c.args.range.start c.args.range.end s (c.in_ok-prepared.ensures.joins k x s) (c.in_ok-prepared.ensures.body k x s) in
      record {
        first = rests.bodies;
        second = rests.bodies ++ w.body ∷ [];
        says_one = rests_say old.schema old.settings (analyze old.analyzer) (members_of old) x.state.groups (d.content device) (d.unsynced device) (gate_of c.args.self.now) rests (stands_groups analyze old k x s);
        says_other = inr (record { members = members_merged old p; leave = leave_next old.schema old.settings rests.bodies (members_of old) (members_merged old p) w.body rests.leave w.makes; are_groups = w.are_groups });
        images = c.append.ensures.any_moment rests.bodies w.body h (c.frame.ensures ∙ w.framed) rests.at_rest rests.synced;
      });
  lists = λ h rests leave. (
      let old = c.args.self.now in
      let p = c.in_ok-prepared.prepared in
      let w = merge_written g.A.Analyzer.analyze old.index_state p k x c.args.range.start c.args.range.end s (c.in_ok-prepared.ensures.joins k x s) (c.in_ok-prepared.ensures.body k x s) in
      appends_lists g.A.Analyzer.analyze old c.append.new.self.device (members_merged old.index_state p) x.state.groups _ w.body (g.met.D.Device.remains (device_of old) h) rests leave w.makes w.are_groups
      (c.append.ensures.any_moment rests.bodies w.body h (c.frame.ensures ∙ w.framed) rests.at_rest rests.synced));
  installed = λ h rests leave. (
      let old = c.args.self.now in
      let p = c.in_ok-prepared.prepared in
      let w = merge_written g.A.Analyzer.analyze old.index_state p k x c.args.range.start c.args.range.end s (c.in_ok-prepared.ensures.joins k x s) (c.in_ok-prepared.ensures.body k x s) in
      installs_lists g.A.Analyzer.analyze old c.install_merge.new.self c.append.new.self.device _ (members_merged old.index_state p) x.state.groups _ w.body (g.met.D.Device.remains (device_of old) h) rests leave w.makes w.are_groups c.install_merge.ensures.made
      (c.in-Ok.ensures.appended rests.bodies w.body h (c.frame.ensures ∙ w.framed) rests.at_rest) (c.in-Ok.ensures.unsynced h));
}

pub returns-in_err-prepared-clause-limit : goal.returns-in_err-prepared-clause-limit
returns-in_err-prepared-clause-limit g c k x s = limit_told c.from_residual.result c.in_err-prepared.field-0.0 _ c.from_residual.ensures.1 (λ limit. inl (c.in_err-prepared.ensures.limit k x s limit))

pub returns-in-Device-clause-writes : goal.returns-in-Device-clause-writes
returns-in-Device-clause-writes g c k x s = record {
  left = (
      let y : calls.Index = record { state = x.state; status = calls.closed } in
      let call = calls.merge_range c.args.range.start c.args.range.end in
      (y, subst (λ e. calls.Leaves k x call (Err e) y) (sym c.in-Device.is) (calls.device_failed (c.in_ok-prepared.ensures.taken k x s) refl), c.stop.ensures.left k x s));
  exact = (λ memory device limit. absurd (device c.in-Device.is));
  recorded = tt;
  appended = λ h. tt;
  rests = λ h rests. tt;
  any_moment = λ h rests. (
      let d = g.D.Device in
      let analyze = g.A.Analyzer.analyze in
      let old = c.args.self.now.index_state in
      let device = device_of c.args.self.now in
      let p = c.in_ok-prepared.prepared in
      let w = merge_written analyze old p k x c.args.range.start c.args.range.end s (c.in_ok-prepared.ensures.joins k x s) (c.in_ok-prepared.ensures.body k x s) in
      record {
        first = rests.bodies;
        second = rests.bodies ++ w.body ∷ [];
        says_one = rests_say old.schema old.settings (analyze old.analyzer) (members_of old) x.state.groups (d.content device) (d.unsynced device) (gate_of c.args.self.now) rests (stands_groups analyze old k x s);
        says_other = inr (record { members = members_merged old p; leave = leave_next old.schema old.settings rests.bodies (members_of old) (members_merged old p) w.body rests.leave w.makes; are_groups = w.are_groups });
        images = c.append.ensures.any_moment rests.bodies w.body h (c.frame.ensures ∙ w.framed) rests.at_rest rests.synced;
      });
  lists = λ h rests leave. (
      let old = c.args.self.now in
      let p = c.in_ok-prepared.prepared in
      let w = merge_written g.A.Analyzer.analyze old.index_state p k x c.args.range.start c.args.range.end s (c.in_ok-prepared.ensures.joins k x s) (c.in_ok-prepared.ensures.body k x s) in
      appends_lists g.A.Analyzer.analyze old c.append.new.self.device (members_merged old.index_state p) x.state.groups _ w.body (g.met.D.Device.remains (device_of old) h) rests leave w.makes w.are_groups
      (c.append.ensures.any_moment rests.bodies w.body h (c.frame.ensures ∙ w.framed) rests.at_rest rests.synced));
  installed = λ h rests leave. tt;
}

pub returns : goal.returns
returns g c =
    let d = g.D.Device in
    let analyze = g.A.Analyzer.analyze in
    let from = c.args.range.start in
    let to = c.args.range.end in
    let call = calls.merge_range from to in
    let old = c.args.self.now.index_state in
    let device = device_of c.args.self.now in
    let p = c.in_ok-prepared.prepared in
    let fault = c.in-Err.fault in
    let limit : fault ≡ faults.Limit = elim c.in-Err.ensures.fault [
      | inl failed ↦ absurd (c.in_default.not-Device failed)
      | inr met ↦ met
    ] in
    let unchanged = c.in-Err.ensures.unchanged (ap Err limit) in
    record {
      writes = λ k x s. record {
        left = (x, subst (λ e. calls.Leaves k x call (Err e) x) (sym limit) (calls.limit_refused (c.in_ok-prepared.ensures.taken k x s) refl), s);
        exact = λ memory failed other. absurd (other limit);
        recorded = tt;
        appended = λ h. tt;
        rests = λ h rests. tt;
        any_moment = λ h rests. (
            let w = merge_written analyze old p k x from to s (c.in_ok-prepared.ensures.joins k x s) (c.in_ok-prepared.ensures.body k x s) in
            record {
              first = rests.bodies;
              second = rests.bodies ++ w.body ∷ [];
              says_one = rests_say old.schema old.settings (analyze old.analyzer) (members_of old) x.state.groups (d.content device) (d.unsynced device) (gate_of c.args.self.now) rests (stands_groups analyze old k x s);
              says_other = inr (record { members = members_merged old p; leave = leave_next old.schema old.settings rests.bodies (members_of old) (members_merged old p) w.body rests.leave w.makes; are_groups = w.are_groups });
              images = c.append.ensures.any_moment rests.bodies w.body h (c.frame.ensures ∙ w.framed) rests.at_rest rests.synced;
            });
        lists = λ h rests leave. (
            let w = merge_written analyze old p k x from to s (c.in_ok-prepared.ensures.joins k x s) (c.in_ok-prepared.ensures.body k x s) in
            appends_lists analyze c.args.self.now c.append.new.self.device (members_merged old p) x.state.groups _ w.body (g.met.D.Device.remains device h) rests leave w.makes w.are_groups
            (c.append.ensures.any_moment rests.bodies w.body h (c.frame.ensures ∙ w.framed) rests.at_rest rests.synced));
        installed = λ h rests leave. tt;
      };
      made = search;
      honest = c.append.ensures.honest;
      cause = c.in-Err.ensures.cause;
      counted = c.in-Err.ensures.counted;
      limit = λ k x s met. (
          let w = merge_written analyze old p k x from to s (c.in_ok-prepared.ensures.joins k x s) (c.in_ok-prepared.ensures.body k x s) in
          inr (members_merged old p, w.body, w.records, subst (λ (bytes : List ℕ). 2 ^ 63 < gate_of c.args.self.now + 1 + length bytes) (c.frame.ensures ∙ w.framed) (c.append.ensures.limit.0 (c.in-Err.is ∙ met))));
      short = tt;
      kept = λ other. (unchanged.0, unchanged.1, refl);
      segments = record {
        recorded = tt;
        appended = λ h. tt;
        rests = λ h rests. tt;
        any_moment = λ h rests. (
            let after = members_merged old p in
            let w = has_body old.schema call (members_of old) after (merge_frame_in p) c.in_ok-prepared.ensures.records in
            (after, inr (w.body, (w.makes, w.over)), tt, crash_next c.args.self.now call after (merge_frame_in p) w c.append.new.self.device (λ bodies rest synced. c.append.ensures.any_moment bodies w.body h (c.frame.ensures ∙ w.framed) rest synced) rests));
      };
      refused = λ k x s memory failed other. absurd (other limit);
      admitted = λ k x s. tt;
      same = λ other. record { made = record { analyzer = refl; schema = refl; settings = refl }; members = refl; waiting = refl; status = refl };
      failed = λ device. absurd (c.in_default.not-Device device);
      waits = tt;
    }

-- ---- of any index

pub returns-in_err-prepared-clause-segments : goal.returns-in_err-prepared-clause-segments
returns-in_err-prepared-clause-segments g c =
    record {
      recorded = not_ok c.from_residual.result c.in_err-prepared.field-0.0 _ c.from_residual.ensures.1;
      appended = λ h. not_ok c.from_residual.result c.in_err-prepared.field-0.0 _ c.from_residual.ensures.1;
      rests = λ h rests. not_ok c.from_residual.result c.in_err-prepared.field-0.0 _ c.from_residual.ensures.1;
      any_moment = λ h rests. (members_of c.args.self.now.index_state, inl refl, not_ok c.from_residual.result c.in_err-prepared.field-0.0 _ c.from_residual.ensures.1, crash_same c.args.self.now (λ image left. g.met.D.Device.only_now (device_of c.args.self.now) image h left) rests);
    }

pub returns-in_err-prepared-clause-refused : goal.returns-in_err-prepared-clause-refused
returns-in_err-prepared-clause-refused g c k x s =
    err_has c.from_residual.result c.in_err-prepared.field-0.0 (λ f. f ≢ faults.OutOfMemory → f ≢ faults.Device → f ≢ faults.Limit → (f ≡ faults.Damaged None) ⊎ (calls.call_fault k x (calls.merge_range c.args.range.start c.args.range.end) ≡ Some f)) c.from_residual.ensures.1 (λ memory device limit. c.in_err-prepared.ensures.refused k x s memory limit)

pub returns-in_err-prepared-clause-admitted : goal.returns-in_err-prepared-clause-admitted
returns-in_err-prepared-clause-admitted g c k x s =
    not_ok c.from_residual.result c.in_err-prepared.field-0.0 _ c.from_residual.ensures.1

pub returns-in_err-prepared-clause-same : goal.returns-in_err-prepared-clause-same
returns-in_err-prepared-clause-same g c =
    err_has c.from_residual.result c.in_err-prepared.field-0.0 _ c.from_residual.ensures.1 (λ device. record { made = record { analyzer = refl; schema = refl; settings = refl }; members = refl; waiting = refl; status = refl })

pub returns-in_err-prepared-clause-failed : goal.returns-in_err-prepared-clause-failed
returns-in_err-prepared-clause-failed g c =
    err_has c.from_residual.result c.in_err-prepared.field-0.0 _ c.from_residual.ensures.1 (λ device. absurd (c.in_err-prepared.ensures.fault device))

pub returns-in_err-prepared-clause-waits : goal.returns-in_err-prepared-clause-waits
returns-in_err-prepared-clause-waits g c =
    not_ok c.from_residual.result c.in_err-prepared.field-0.0 _ c.from_residual.ensures.1

pub returns-in-Ok-clause-segments : goal.returns-in-Ok-clause-segments
returns-in-Ok-clause-segments g c =
    let old = c.args.self.now in
    let call = calls.merge_range c.args.range.start c.args.range.end in
    let p = c.in_ok-prepared.prepared in
    let after = members_merged old.index_state p in
    let w = has_body (schema_of old) call (members_of old.index_state) after (merge_frame_in p) c.in_ok-prepared.ensures.records in
    let same : members_of c.install_merge.new.self ≡ after = c.install_merge.ensures.members in
    let records = subst (λ ms. RecordsSegments (schema_of old) call (members_of old.index_state) ms w.body) (sym same) (w.makes, w.over) in
    record {
      recorded = (w.body, records);
      appended = λ h bodies rest. (w.body, records, c.in-Ok.ensures.appended bodies w.body h (c.frame.ensures ∙ w.framed) rest);
      rests = λ h rests. rests_next old call after (merge_frame_in p) w (record { index_state = c.install_merge.new.self; file = c.append.new.self }) c.install_merge.ensures.made same (c.in-Ok.ensures.unsynced h) (λ bodies rest. c.in-Ok.ensures.appended bodies w.body h (c.frame.ensures ∙ w.framed) rest) rests;
      any_moment = λ h rests. (after, inr (w.body, (w.makes, w.over)), sym same, crash_next old call after (merge_frame_in p) w c.append.new.self.device (λ bodies rest synced. c.append.ensures.any_moment bodies w.body h (c.frame.ensures ∙ w.framed) rest synced) rests);
    }

pub returns-in-Ok-clause-admitted : goal.returns-in-Ok-clause-admitted
returns-in-Ok-clause-admitted g c k x s =
    c.in_ok-prepared.ensures.admitted k x s

pub returns-in-Ok-clause-waits : goal.returns-in-Ok-clause-waits
returns-in-Ok-clause-waits g c =
    (c.install_merge.ensures.waiting, c.install_merge.ensures.status)

pub returns-in-Device-clause-segments : goal.returns-in-Device-clause-segments
returns-in-Device-clause-segments g c =
    let old = c.args.self.now in
    let call = calls.merge_range c.args.range.start c.args.range.end in
    let p = c.in_ok-prepared.prepared in
    let after = members_merged old.index_state p in
    let w = has_body (schema_of old) call (members_of old.index_state) after (merge_frame_in p) c.in_ok-prepared.ensures.records in
    record {
      recorded = tt;
      appended = λ h. tt;
      rests = λ h rests. tt;
      any_moment = λ h rests. (after, inr (w.body, (w.makes, w.over)), tt, crash_next old call after (merge_frame_in p) w c.append.new.self.device (λ bodies rest synced. c.append.ensures.any_moment bodies w.body h (c.frame.ensures ∙ w.framed) rest synced) rests);
    }

pub returns-in-Device-clause-refused : goal.returns-in-Device-clause-refused
returns-in-Device-clause-refused g c k x s memory device limit =
    absurd (device c.in-Device.is)

pub returns-in-Device-clause-same : goal.returns-in-Device-clause-same
returns-in-Device-clause-same g c device =
    absurd (device c.in-Device.is)

pub returns-in-Device-clause-failed : goal.returns-in-Device-clause-failed
returns-in-Device-clause-failed g c device =
    c.stop.ensures.stopped
