use Rattle.std.proofs.Common.{List, Some, ap, arith, false, inl, inr, length, map, refl, subst, sym, ⊎_elim, ◌+◌, ◌++◌, ◌∙◌, ◌<◌, ◌^◌, ◌≡◌, ◌≢◌, ℕ}
use Rattle.std.proofs.Math.Logic.{∥∥₁_map}
use Rattle.std.proofs.lemmas.Grind.{merely}
use Rattle.std.proofs.lemmas.Result.{IfErr-at_err, IfErr-weaker, IfOk-at_ok}
use Rattle.std.specs.List.{AllZip}
use Rattle.std.specs.Result.{result_err}
use Rattle.definitions.proofs.Lists.{zip_length}
use Rattle.definitions.specs.Calls as calls
use Rattle.definitions.specs.State as states
use Rattle.definitions.specs.declared.fault.Fault.{Fault}
use Rattle.definitions.specs.declared.fault.Fault.TheVariants as faults
use Rattle.index_file.proofs.ErrorsKept.{err_has}
use Rattle.index_file.specs.Frames.{frame_bytes}
use Rattle.segment.specs.Opened.{StandsFor}
use Rattle.segment_definitions.specs.ListBodies.{Makes}
use Rattle.segment_definitions.specs.Segments.{IsSegment}
use Rattle.segment_search.proofs.Flagging.{flagged_within}
use Rattle.index_state.proofs.BodyMade.{members_behind}
use Rattle.index_state.proofs.CommitPrepared.{all_behind, last_passes, some_behind}
use Rattle.index_state.proofs.Committing.{commit_body, half_left, next_rows, prepared_stands, refused_left}
use Rattle.index_state.proofs.CutSegments.{cut_counted, cut_flagged, cut_members, cut_opened, cut_whole}
use Rattle.index_state.proofs.Outcomes.{commit_taken, if_err, if_ok, ready_of, status_refuses, writer_is_not_ready}
use Rattle.index_state.proofs.RecordsMade.{commit_records, commit_says, groups_counted}
use Rattle.index_state.proofs.Shadows.{no_want, not_ok}
use Rattle.index_state.proofs.Standings.{all_docs, all_opened_for, flagged_behind, groups_more, opened_each, sets_within, stands_stopped}
use Rattle.index_state.specs.CommitRecords.{LastPasses, LeavesRows, SomeStandBehind, StandBehind, commit_frame_bytes}
use Rattle.index_state.specs.Commits.{frame_in, sets_in}
use Rattle.index_state.specs.Deletions.{numbered}
use Rattle.index_state.specs.Flags.{AreFlagged, members}
use Rattle.index_state.specs.Pending.{HoldsSome, num_segments_in}
use Rattle.index_state.specs.Records.{IsCommitBody}
use Rattle.index_state.specs.Standing.{members_of, status_of}
use Rattle.index_state.specs.declared.prepared.Prepared.{Prepared}
use Rattle.index_state.proofs.index_state.IndexState.prepare.Goals as goal

pub returns-in_err-check_writer-clause-left : goal.returns-in_err-check_writer-clause-left
returns-in_err-check_writer-clause-left g c k x s =
    let fault = c.in_err-check_writer.field-0.0 in
    let refuses = ap (λ status. calls.status_fault status false) s.status ∙ sym c.check_writer.ensures.value ∙ ap result_err c.in_err-check_writer.was in
    refused_left g.A.Analyzer.analyze c.args.self.now k x s c.from_residual.result fault c.from_residual.ensures.1 refuses

-- ---- too many segments

pub invariant_of-self : goal.invariant_of-self
invariant_of-self g c =
    let old = c.args.self.now in
    let cut = c.truncate.new.self.items in
    let counted : c.len.result ≡ length old.alive.items = c.len.ensures ∙ old.alive.ok.0 in
    record {
      opened = cut_opened old.segments.items cut old.alive.items c.len.result c.truncate.ensures.items counted old.schema old.opened;
      flagged = cut_flagged old.segments.items cut old.alive.items c.len.result c.truncate.ensures.items counted old.flagged;
      held = merely (λ e. absurd (writer_is_not_ready e));
      few = old.few;
    }

pub returns-then-num_segments-len-clause-left : goal.returns-then-num_segments-len-clause-left
returns-then-num_segments-len-clause-left g c k x s =
    let old = c.args.self.now in
    let cut = c.truncate.new.self.items in
    let counted : c.len.result ≡ length old.alive.items = c.len.ensures ∙ old.alive.ok.0 in
    let none = ap (λ status. calls.status_fault status false) s.status ∙ sym c.check_writer.ensures.value ∙ ap result_err c.in_ok-check_writer.was in
    let p = s.pending (ready_of x.status none) in
    let whole = cut_whole old.segments.items cut old.alive.items c.len.result c.truncate.ensures.items counted in
    half_left g.A.Analyzer.analyze old _ (record { analyzer = refl; schema = refl; settings = refl }) k x s faults.Limit (inr refl) none refl refl s.docs (subst (AllZip (StandsFor old.schema (g.A.Analyzer.analyze old.analyzer)) s.docs) (sym (whole p.committed)) s.segments) s.groups calls.commit_pending (commit_taken k x none) refl

pub returns-then-num_segments-len-clause-limit : goal.returns-then-num_segments-len-clause-limit
returns-then-num_segments-len-clause-limit g c k x s is =
    let old = c.args.self.now in
    let none = ap (λ status. calls.status_fault status false) s.status ∙ sym c.check_writer.ensures.value ∙ ap result_err c.in_ok-check_writer.was in
    let p = s.pending (ready_of x.status none) in
    let groups = groups_counted g.A.Analyzer.analyze old k x s p in
    let most = c.if-num_segments-len.true in
    let pending = c.num_segments.ensures in
    let len = c.len-2.ensures ∙ old.alive.ok.0 in
    inr (omega (arith, groups, most, pending, len))

pub returns-then-num_segments-len-clause-members : goal.returns-then-num_segments-len-clause-members
returns-then-num_segments-len-clause-members g c =
    let old = c.args.self.now in
    let cut = c.truncate.new.self.items in
    let counted : c.len.result ≡ length old.alive.items = c.len.ensures ∙ old.alive.ok.0 in
    cut_members old.segments.items cut old.alive.items c.len.result c.truncate.ensures.items counted

-- ---- the record

pub commit_record-requires-clause-held : goal.commit_record-requires-clause-held
commit_record-requires-clause-held g c =
    let old = c.args.self.now in
    let analyze = g.A.Analyzer.analyze old.analyzer in
    let ready = ready_of (status_of old.status) (sym c.check_writer.ensures.value ∙ ap result_err c.in_ok-check_writer.was) in
    ∥∥₁_map old.held (λ held. (analyze, old.settings.block_size, subst (HoldsSome old.schema analyze old.settings.block_size) (sym c.replace.ensures.value) (held ready)))

pub commit_record-requires-clause-flagged : goal.commit_record-requires-clause-flagged
commit_record-requires-clause-flagged g c =
    let old = c.args.self.now in
    let cut = c.truncate.new.self.items in
    let counted : c.len.result ≡ length old.alive.items = c.len.ensures ∙ old.alive.ok.0 in
    subst (AreFlagged cut) (sym c.deref.ensures.value) (cut_flagged old.segments.items cut old.alive.items c.len.result c.truncate.ensures.items counted old.flagged)

pub commit_record-requires-clause-each : goal.commit_record-requires-clause-each
commit_record-requires-clause-each g c =
    let old = c.args.self.now in
    let cut = c.truncate.new.self.items in
    let counted : c.len.result ≡ length old.alive.items = c.len.ensures ∙ old.alive.ok.0 in
    cut_counted old.segments.items cut old.alive.items c.len.result c.truncate.ensures.items counted old.flagged ∙ ap length (sym c.deref.ensures.value)

pub commit_record-requires-clause-few : goal.commit_record-requires-clause-few
commit_record-requires-clause-few g c =
    let old = c.args.self.now in
    let most = c.if-num_segments-len.false in
    let pending = c.num_segments.ensures in
    let same = ap num_segments_in c.replace.ensures.value in
    let sets = ap length c.deref.ensures.value in
    let len = c.len-2.ensures ∙ old.alive.ok.0 in
    let few = old.few in
    omega (arith, most, pending, same, sets, len, few)

pub invariant_of-self-2 : goal.invariant_of-self-2
invariant_of-self-2 g c =
    let old = c.args.self.now in
    let cut = c.truncate.new.self.items in
    let counted : c.len.result ≡ length old.alive.items = c.len.ensures ∙ old.alive.ok.0 in
    let behind = c.commit_record.ensures.behind in
    record {
      opened = c.commit_record.ensures.opened (cut_opened old.segments.items cut old.alive.items c.len.result c.truncate.ensures.items counted old.schema old.opened);
      flagged = flagged_behind cut behind.0 c.commit_record.new.segments.items old.alive.items behind.1 (cut_flagged old.segments.items cut old.alive.items c.len.result c.truncate.ensures.items counted old.flagged);
      held = merely (λ e. absurd (writer_is_not_ready e));
      few = old.few;
    }

pub returns-clause-left : goal.returns-clause-left
returns-clause-left g c k x s =
    let old = c.args.self.now in
    let cut = c.truncate.new.self.items in
    let counted : c.len.result ≡ length old.alive.items = c.len.ensures ∙ old.alive.ok.0 in
    let none = ap (λ status. calls.status_fault status false) s.status ∙ sym c.check_writer.ensures.value ∙ ap result_err c.in_ok-check_writer.was in
    let p = s.pending (ready_of x.status none) in
    let whole = cut_whole old.segments.items cut old.alive.items c.len.result c.truncate.ensures.items counted in
    let few = sets_within old.schema (g.A.Analyzer.analyze old.analyzer) s.docs old.segments.items old.alive.items s.segments old.flagged in
    let segments = c.commit_record.new.segments.items in
    let r = c.commit_record.result in
    if_err r _ (λ fault is.
    (let some = some_behind g.A.Analyzer.analyze old k x s p cut segments c.replace.result whole c.replace.ensures.value (IfErr-at_err (λ (f : Fault). SomeStandBehind old.schema c.replace.result cut segments) is c.commit_record.ensures.err) in
    half_left g.A.Analyzer.analyze old _ (record { analyzer = refl; schema = refl; settings = refl }) k x s fault (IfErr-at_err _ is c.commit_record.ensures.fault) none refl refl
    (s.docs ++ some.0) some.1 (groups_more g.A.Analyzer.analyze old k x s some.0 few) calls.commit_pending (commit_taken k x none) refl))

pub returns-clause-exact : goal.returns-clause-exact
returns-clause-exact g c k x s =
    if_err c.commit_record.result _ (λ fault is memory limit. absurd (⊎_elim (λ m. memory m) (λ l. limit l) (IfErr-at_err _ is c.commit_record.ensures.fault)))

pub returns-clause-fault : goal.returns-clause-fault
returns-clause-fault g c =
    IfErr-weaker c.commit_record.result _ _ (λ fault want. ⊎_elim (λ m. inl m) (λ l. inr (inl l)) want) c.commit_record.ensures.fault

pub returns-clause-limit : goal.returns-clause-limit
returns-clause-limit g c k x s =
    let old = c.args.self.now in
    let cut = c.truncate.new.self.items in
    let counted : c.len.result ≡ length old.alive.items = c.len.ensures ∙ old.alive.ok.0 in
    let none = ap (λ status. calls.status_fault status false) s.status ∙ sym c.check_writer.ensures.value ∙ ap result_err c.in_ok-check_writer.was in
    let p = s.pending (ready_of x.status none) in
    let whole = cut_whole old.segments.items cut old.alive.items c.len.result c.truncate.ensures.items counted in
    let segments = c.commit_record.new.segments.items in
    let r = c.commit_record.result in
    if_err r _ (λ fault is limit. inl (last_passes g.A.Analyzer.analyze old k x s p cut segments c.replace.result whole c.replace.ensures.value fault (IfErr-at_err (LastPasses old.schema c.replace.result) is c.commit_record.ensures.limit) limit))

pub returns-clause-taken : goal.returns-clause-taken
returns-clause-taken g c k x s =
    let none = ap (λ status. calls.status_fault status false) s.status ∙ sym c.check_writer.ensures.value ∙ ap result_err c.in_ok-check_writer.was in
    if_ok c.commit_record.result _ (λ prepared is. ready_of x.status none)

pub returns-clause-stopped : goal.returns-clause-stopped
returns-clause-stopped g c k x s =
    let old = c.args.self.now in
    let cut = c.truncate.new.self.items in
    let counted : c.len.result ≡ length old.alive.items = c.len.ensures ∙ old.alive.ok.0 in
    let none = ap (λ status. calls.status_fault status false) s.status ∙ sym c.check_writer.ensures.value ∙ ap result_err c.in_ok-check_writer.was in
    let p = s.pending (ready_of x.status none) in
    let whole = cut_whole old.segments.items cut old.alive.items c.len.result c.truncate.ensures.items counted in
    let few = sets_within old.schema (g.A.Analyzer.analyze old.analyzer) s.docs old.segments.items old.alive.items s.segments old.flagged in
    let segments = c.commit_record.new.segments.items in
    let r = c.commit_record.result in
    if_ok r _ (λ prepared is.
    (let shown = all_behind g.A.Analyzer.analyze old k x s p cut segments c.replace.result whole c.replace.ensures.value (IfOk-at_ok (λ (q : Prepared). StandBehind old.schema c.replace.result cut segments) is c.commit_record.ensures.ok) in
    stands_stopped g.A.Analyzer.analyze old _ (record { analyzer = refl; schema = refl; settings = refl }) k x s calls.writer_closed writer_is_not_ready refl refl
    (s.docs ++ (p.full ++ states.as_group p.last)) shown (groups_more g.A.Analyzer.analyze old k x s (p.full ++ states.as_group p.last) few)))

pub returns-clause-prepared : goal.returns-clause-prepared
returns-clause-prepared g c k x s =
    let old = c.args.self.now in
    let cut = c.truncate.new.self.items in
    let counted : c.len.result ≡ length old.alive.items = c.len.ensures ∙ old.alive.ok.0 in
    let none = ap (λ status. calls.status_fault status false) s.status ∙ sym c.check_writer.ensures.value ∙ ap result_err c.in_ok-check_writer.was in
    let p = s.pending (ready_of x.status none) in
    let whole = cut_whole old.segments.items cut old.alive.items c.len.result c.truncate.ensures.items counted in
    let segments = c.commit_record.new.segments.items in
    let r = c.commit_record.result in
    let v = all_docs g.A.Analyzer.analyze old k x s p in
    let docs = v.docs ++ states.as_group v.last in
    let cutter = g.A.Analyzer.analyze old.analyzer in
    if_ok r _ (λ prepared is.
    (let shown = all_behind g.A.Analyzer.analyze old k x s p cut segments c.replace.result whole c.replace.ensures.value (IfOk-at_ok (λ (q : Prepared). StandBehind old.schema c.replace.result cut segments) is c.commit_record.ensures.ok) in
    let all = all_opened_for g.A.Analyzer.analyze old k x s p segments shown in
    let sets = sets_in prepared in
    let each : length sets ≡ length docs = IfOk-at_ok (λ (q : Prepared). length (sets_in q) ≡ length segments) is c.commit_record.ensures.each ∙ sym (zip_length (StandsFor old.schema cutter) docs segments all) in
    let left = IfOk-at_ok (λ (q : Prepared). LeavesRows c.deref.result.now c.deref-2.result.now segments (sets_in q)) is c.commit_record.ensures.rows in
    let rows = next_rows g.A.Analyzer.analyze old x.state v segments c.deref.result.now sets c.deref-2.result.now c.deref.ensures.value c.deref-2.ensures.value all left in
    prepared_stands g.A.Analyzer.analyze old _ (record { analyzer = refl; schema = refl; settings = refl }) k x s v sets all each rows))

pub returns-clause-few : goal.returns-clause-few
returns-clause-few g c =
    let old = c.args.self.now in
    let cut = c.truncate.new.self.items in
    let counted : c.len.result ≡ length old.alive.items = c.len.ensures ∙ old.alive.ok.0 in
    let segments = c.commit_record.new.segments.items in
    let r = c.commit_record.result in
    if_ok r _ (λ prepared is.
    (let each = IfOk-at_ok (λ (q : Prepared). length (sets_in q) ≡ length segments) is c.commit_record.ensures.each in
    let count = IfOk-at_ok (λ (q : Prepared). length segments ≡ length cut + num_segments_in c.replace.result) is c.commit_record.ensures.count in
    let first = cut_counted old.segments.items cut old.alive.items c.len.result c.truncate.ensures.items counted old.flagged in
    let most = c.if-num_segments-len.false in
    let pending = c.num_segments.ensures in
    let same = ap num_segments_in c.replace.ensures.value in
    let len = c.len-2.ensures ∙ old.alive.ok.0 in
    let few = old.few in
    omega (arith, each, count, first, most, pending, same, len, few)))

pub returns-clause-body : goal.returns-clause-body
returns-clause-body g c k x s =
    let old = c.args.self.now in
    let cut = c.truncate.new.self.items in
    let counted : c.len.result ≡ length old.alive.items = c.len.ensures ∙ old.alive.ok.0 in
    let none = ap (λ status. calls.status_fault status false) s.status ∙ sym c.check_writer.ensures.value ∙ ap result_err c.in_ok-check_writer.was in
    let p = s.pending (ready_of x.status none) in
    let whole = cut_whole old.segments.items cut old.alive.items c.len.result c.truncate.ensures.items counted in
    let segments = c.commit_record.new.segments.items in
    let r = c.commit_record.result in
    let cutter = g.A.Analyzer.analyze old.analyzer in
    let alive = old.alive.items in
    let n = old.settings.docs_per_segment in
    let v = all_docs g.A.Analyzer.analyze old k x s p in
    let behind = c.commit_record.ensures.behind in
    let marked = cut_flagged old.segments.items cut alive c.len.result c.truncate.ensures.items counted old.flagged in
    let within = flagged_within segments alive (flagged_behind cut behind.0 segments alive behind.1 marked) in
    let same = members_behind cut behind.0 segments alive behind.1 marked ∙ cut_members old.segments.items cut alive c.len.result c.truncate.ensures.items counted in
    if_ok r _ (λ prepared is.
    (let shown = all_behind g.A.Analyzer.analyze old k x s p cut segments c.replace.result whole c.replace.ensures.value (IfOk-at_ok (λ (q : Prepared). StandBehind old.schema c.replace.result cut segments) is c.commit_record.ensures.ok) in
    let all = all_opened_for g.A.Analyzer.analyze old k x s p segments shown in
    let opened = opened_each old.schema cutter (v.docs ++ states.as_group v.last) segments all in
    let sets = sets_in prepared in
    let flagged = IfOk-at_ok (λ (q : Prepared). AreFlagged segments (sets_in q)) is c.commit_record.ensures.flagged in
    let each = IfOk-at_ok (λ (q : Prepared). length (sets_in q) ≡ length segments) is c.commit_record.ensures.each in
    let framed = IfOk-at_ok (λ (q : Prepared). frame_in q ≡ commit_frame_bytes c.deref.result.now segments (sets_in q)) is c.commit_record.ensures.frame in
    let count = IfOk-at_ok (λ (q : Prepared). length segments ≡ length cut + num_segments_in c.replace.result) is c.commit_record.ensures.count in
    let first = cut_counted old.segments.items cut alive c.len.result c.truncate.ensures.items counted old.flagged in
    let most = c.if-num_segments-len.false in
    let pending = c.num_segments.ensures in
    let held = ap num_segments_in c.replace.ensures.value in
    let len = c.len-2.ensures ∙ old.alive.ok.0 in
    let room = old.few in
    let small : length segments < 2 ^ 32 = omega (arith, count, first, most, pending, held, len, room) in
    let dels = map (numbered n) old.deletions.items in
    let says = commit_says old.schema cutter n x.state.pending v.docs v.last dels segments alive sets all v.few within each v.waiting.waits in
    let made : (body : List ℕ) × (frame_in prepared ≡ frame_bytes body) × Makes (IsSegment old.schema) (members_of old) (members segments sets) body × IsCommitBody old.schema cutter n x.state.pending (members_of old) (members segments sets) body =
    commit_body old.schema cutter n x.state.pending (frame_in prepared) segments segments alive sets sets (length c.deref.result.now) (members_of old) refl refl (ap length c.deref.ensures.value) framed opened flagged within each small same says in
    subst (λ (m : calls.Configuration). (body : List ℕ) × (frame_in prepared ≡ frame_bytes body) × Makes (IsSegment m.schema) (members_of old) (members segments sets) body × IsCommitBody m.schema m.analyze m.docs_per_segment x.state.pending (members_of old) (members segments sets) body) (sym s.made) made))

pub returns-clause-members : goal.returns-clause-members
returns-clause-members g c =
    let old = c.args.self.now in
    let cut = c.truncate.new.self.items in
    let counted : c.len.result ≡ length old.alive.items = c.len.ensures ∙ old.alive.ok.0 in
    let behind = c.commit_record.ensures.behind in
    let marked = cut_flagged old.segments.items cut old.alive.items c.len.result c.truncate.ensures.items counted old.flagged in
    members_behind cut behind.0 c.commit_record.new.segments.items old.alive.items behind.1 marked ∙ cut_members old.segments.items cut old.alive.items c.len.result c.truncate.ensures.items counted

-- ---- of any index

pub returns-in_err-check_writer-clause-refused : goal.returns-in_err-check_writer-clause-refused
returns-in_err-check_writer-clause-refused g c k x s =
    let fault = c.in_err-check_writer.field-0.0 in
    let refuses = ap (λ status. calls.status_fault status false) s.status ∙ sym c.check_writer.ensures.value ∙ ap result_err c.in_err-check_writer.was in
    err_has c.from_residual.result fault (λ f. f ≢ faults.OutOfMemory → f ≢ faults.Limit → calls.call_fault k x calls.commit_pending ≡ Some f) c.from_residual.ensures.1 (λ memory limit. status_refuses k x calls.commit_pending fault refuses)

pub returns-in_err-check_writer-clause-admitted : goal.returns-in_err-check_writer-clause-admitted
returns-in_err-check_writer-clause-admitted g c k x s =
    not_ok c.from_residual.result c.in_err-check_writer.field-0.0 _ c.from_residual.ensures.1

pub returns-in_err-check_writer-clause-same : goal.returns-in_err-check_writer-clause-same
returns-in_err-check_writer-clause-same g c =
    if_err c.from_residual.result _ (λ fault is memory limit. record { made = record { analyzer = refl; schema = refl; settings = refl }; members = refl; waiting = refl; status = refl })

pub returns-in_err-check_writer-clause-half_way : goal.returns-in_err-check_writer-clause-half_way
returns-in_err-check_writer-clause-half_way g c =
    err_has c.from_residual.result c.in_err-check_writer.field-0.0 _ c.from_residual.ensures.1 (λ want. absurd (no_want c.in_err-check_writer.field-0.0 c.in_err-check_writer.ensures.fault want))

pub returns-in_err-check_writer-clause-begun : goal.returns-in_err-check_writer-clause-begun
returns-in_err-check_writer-clause-begun g c =
    not_ok c.from_residual.result c.in_err-check_writer.field-0.0 _ c.from_residual.ensures.1

pub returns-then-num_segments-len-clause-half_way : goal.returns-then-num_segments-len-clause-half_way
returns-then-num_segments-len-clause-half_way g c want =
    let old = c.args.self.now in
    let cut = c.truncate.new.self.items in
    let counted : c.len.result ≡ length old.alive.items = c.len.ensures ∙ old.alive.ok.0 in
    record {
      made = record { analyzer = refl; schema = refl; settings = refl };
      members = cut_members old.segments.items cut old.alive.items c.len.result c.truncate.ensures.items counted;
      stopped = refl;
    }

pub returns-clause-refused : goal.returns-clause-refused
returns-clause-refused g c k x s =
    if_err c.commit_record.result _ (λ fault is memory limit. absurd (⊎_elim (λ m. memory m) (λ l. limit l) (IfErr-at_err _ is c.commit_record.ensures.fault)))

pub returns-clause-admitted : goal.returns-clause-admitted
returns-clause-admitted g c k x s =
    let none = ap (λ status. calls.status_fault status false) s.status ∙ sym c.check_writer.ensures.value ∙ ap result_err c.in_ok-check_writer.was in
    if_ok c.commit_record.result _ (λ prepared is. commit_taken k x none)

pub returns-clause-same : goal.returns-clause-same
returns-clause-same g c =
    if_err c.commit_record.result _ (λ fault is memory limit. absurd (⊎_elim (λ m. memory m) (λ l. limit l) (IfErr-at_err _ is c.commit_record.ensures.fault)))

pub returns-clause-half_way : goal.returns-clause-half_way
returns-clause-half_way g c =
    let old = c.args.self.now in
    let cut = c.truncate.new.self.items in
    let counted : c.len.result ≡ length old.alive.items = c.len.ensures ∙ old.alive.ok.0 in
    let behind = c.commit_record.ensures.behind in
    let marked = cut_flagged old.segments.items cut old.alive.items c.len.result c.truncate.ensures.items counted old.flagged in
    let kept = members_behind cut behind.0 c.commit_record.new.segments.items old.alive.items behind.1 marked ∙ cut_members old.segments.items cut old.alive.items c.len.result c.truncate.ensures.items counted in
    if_err c.commit_record.result _ (λ fault is want. record { made = record { analyzer = refl; schema = refl; settings = refl }; members = kept; stopped = refl })

pub returns-clause-begun : goal.returns-clause-begun
returns-clause-begun g c =
    let old = c.args.self.now in
    let cut = c.truncate.new.self.items in
    let counted : c.len.result ≡ length old.alive.items = c.len.ensures ∙ old.alive.ok.0 in
    let behind = c.commit_record.ensures.behind in
    let marked = cut_flagged old.segments.items cut old.alive.items c.len.result c.truncate.ensures.items counted old.flagged in
    let kept = members_behind cut behind.0 c.commit_record.new.segments.items old.alive.items behind.1 marked ∙ cut_members old.segments.items cut old.alive.items c.len.result c.truncate.ensures.items counted in
    if_ok c.commit_record.result _ (λ prepared is. record { made = record { analyzer = refl; schema = refl; settings = refl }; members = kept; stopped = refl })

pub returns-clause-records : goal.returns-clause-records
returns-clause-records g c =
    let old = c.args.self.now in
    let cut = c.truncate.new.self.items in
    let counted : c.len.result ≡ length old.alive.items = c.len.ensures ∙ old.alive.ok.0 in
    let segments = c.commit_record.new.segments.items in
    let r = c.commit_record.result in
    let alive = old.alive.items in
    let behind = c.commit_record.ensures.behind in
    let marked = cut_flagged old.segments.items cut alive c.len.result c.truncate.ensures.items counted old.flagged in
    let within = flagged_within segments alive (flagged_behind cut behind.0 segments alive behind.1 marked) in
    let kept = members_behind cut behind.0 segments alive behind.1 marked ∙ cut_members old.segments.items cut alive c.len.result c.truncate.ensures.items counted in
    let opened = c.commit_record.ensures.opened (cut_opened old.segments.items cut alive c.len.result c.truncate.ensures.items counted old.schema old.opened) in
    if_ok r _ (λ prepared is.
    (let flagged = IfOk-at_ok (λ (q : Prepared). AreFlagged segments (sets_in q)) is c.commit_record.ensures.flagged in
    let each = IfOk-at_ok (λ (q : Prepared). length (sets_in q) ≡ length segments) is c.commit_record.ensures.each in
    let framed = IfOk-at_ok (λ (q : Prepared). frame_in q ≡ commit_frame_bytes c.deref.result.now segments (sets_in q)) is c.commit_record.ensures.frame in
    let count = IfOk-at_ok (λ (q : Prepared). length segments ≡ length cut + num_segments_in c.replace.result) is c.commit_record.ensures.count in
    let first = cut_counted old.segments.items cut alive c.len.result c.truncate.ensures.items counted old.flagged in
    let most = c.if-num_segments-len.false in
    let pending = c.num_segments.ensures in
    let held = ap num_segments_in c.replace.ensures.value in
    let len = c.len-2.ensures ∙ old.alive.ok.0 in
    let room = old.few in
    let small : length segments < 2 ^ 32 = omega (arith, count, first, most, pending, held, len, room) in
    commit_records old.schema (frame_in prepared) segments alive (sets_in prepared) c.deref.result.now (members_of old) c.deref.ensures.value framed opened flagged within each small kept))
