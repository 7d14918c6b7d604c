use Rattle.std.proofs.Common.{List, Err, None, Some, ap, ap₂, arith, false, inl, inr, length, map, refl, subst, sym, ◌∙◌, ◌≡◌, ◌≢◌, ◌⊎◌, [], ℕ}
use Rattle.std.proofs.lemmas.Result.{IfErr-weaker, IfOk-at_ok}
use Rattle.std.specs.Prelude.{IfSome, MatchOption, option_to_list}
use Rattle.std.specs.Result.{result_err}
use Rattle.definitions.specs.Calls as calls
use Rattle.definitions.specs.declared.fault.Fault.TheVariants as faults
use Rattle.index_file.specs.Frames.{frame_bytes}
use Rattle.segment.specs.Opened.{IsOpened, StandsFor, bytes_of}
use Rattle.index_state.proofs.MergedGroups.{few_new, merge_body, merge_refused, merge_whole, new_opened, range_answered}
use Rattle.definitions.proofs.Lists.{err_map}
use Rattle.index_file.proofs.ErrorsKept.{err_has}
use Rattle.index_state.proofs.Outcomes.{if_ok, memory_is_no_limit, status_refuses}
use Rattle.index_state.proofs.Standings.{opened_each}
use Rattle.index_state.specs.Bodies.{merged_parts}
use Rattle.index_state.proofs.RecordsMade.{merge_records, new_alive}
use Rattle.index_state.proofs.Shadows.{not_ok, range_by}
use Rattle.index_state.specs.Merges.{alive_member, all_alive, joined_groups, members_merged, merge_frame_in, new_in, replaced, sets_merged}
use Rattle.index_state.specs.Records.{IsMergeBody, RecordsSegments}
use Rattle.index_state.specs.Standing.{members_of}
use Rattle.index_state.specs.declared.prepared_merge.PreparedMerge.{PreparedMerge}
use Rattle.segment_definitions.specs.ListBodies.{Makes, segments_body}
use Rattle.segment_definitions.specs.Segments.{IsSegment}
use Rattle.index_state.proofs.index_state.IndexState.prepare_merge.Goals as goal

pub returns-in_err-check_writer-clause-left : goal.returns-in_err-check_writer-clause-left
returns-in_err-check_writer-clause-left g c k x s =
    let call = calls.merge_range c.args.from c.args.to in
    let fault = c.in_err-check_writer.field-0.0 in
    let refuses = ap (λ status. calls.status_fault status false) s.status ∙ sym c.check_writer.ensures.value ∙ ap result_err c.in_err-check_writer.was in
    err_has c.from_residual.result fault (λ f. calls.Leaves k x call (Err f) x) c.from_residual.ensures.1 (calls.refused fault (status_refuses k x call fault refuses))

pub returns-in_err-check_writer-clause-exact : goal.returns-in_err-check_writer-clause-exact
returns-in_err-check_writer-clause-exact g c k x s =
    let call = calls.merge_range c.args.from c.args.to in
    let fault = c.in_err-check_writer.field-0.0 in
    let refuses = ap (λ status. calls.status_fault status false) s.status ∙ sym c.check_writer.ensures.value ∙ ap result_err c.in_err-check_writer.was in
    err_has c.from_residual.result fault (λ f. f ≢ faults.OutOfMemory → f ≢ faults.Limit → calls.call_fault k x call ≡ Some f) c.from_residual.ensures.1 (λ memory limit. status_refuses k x call fault refuses)

pub returns-in_err-check_range-clause-left : goal.returns-in_err-check_range-clause-left
returns-in_err-check_range-clause-left g c k x s =
    let index = c.args.self.now in
    let from = c.args.from in
    let to = c.args.to in
    let call = calls.merge_range from to in
    let none = ap (λ status. calls.status_fault status false) s.status ∙ sym c.check_writer.ensures.value ∙ ap result_err c.in_ok-check_writer.was in
    let tested = range_answered g.A.Analyzer.analyze index k x s from to none c.len.result c.check_range.result (c.len.ensures ∙ index.alive.ok.0) c.check_range.ensures.fault in
    let fault = c.in_err-check_range.field-0.0 in
    err_has c.from_residual-in_err-check_range.result fault (λ f. calls.Leaves k x call (Err f) x) c.from_residual-in_err-check_range.ensures.1 (calls.refused fault (tested ∙ ap result_err c.in_err-check_range.was))

pub returns-in_err-check_range-clause-exact : goal.returns-in_err-check_range-clause-exact
returns-in_err-check_range-clause-exact g c k x s =
    let index = c.args.self.now in
    let from = c.args.from in
    let to = c.args.to in
    let call = calls.merge_range from to in
    let none = ap (λ status. calls.status_fault status false) s.status ∙ sym c.check_writer.ensures.value ∙ ap result_err c.in_ok-check_writer.was in
    let tested = range_answered g.A.Analyzer.analyze index k x s from to none c.len.result c.check_range.result (c.len.ensures ∙ index.alive.ok.0) c.check_range.ensures.fault in
    let fault = c.in_err-check_range.field-0.0 in
    err_has c.from_residual-in_err-check_range.result fault (λ f. f ≢ faults.OutOfMemory → f ≢ faults.Limit → calls.call_fault k x call ≡ Some f) c.from_residual-in_err-check_range.ensures.1 (λ memory limit. tested ∙ ap result_err c.in_err-check_range.was)

pub returns-clause-left : goal.returns-clause-left
returns-clause-left g c k x s =
    let index = c.args.self.now in
    let from = c.args.from in
    let to = c.args.to in
    let call = calls.merge_range from to in
    let none = ap (λ status. calls.status_fault status false) s.status ∙ sym c.check_writer.ensures.value ∙ ap result_err c.in_ok-check_writer.was in
    let tested = range_answered g.A.Analyzer.analyze index k x s from to none c.len.result c.check_range.result (c.len.ensures ∙ index.alive.ok.0) c.check_range.ensures.fault in
    let taken = tested ∙ ap result_err c.in_ok-check_range.was in
    IfErr-weaker c.merge_record.result _ _ (λ fault limit. merge_refused g.A.Analyzer.analyze index k x s from to none fault taken (λ other. (limit other).0)) (c.merge_record.ensures.limit k x s)

pub returns-clause-exact : goal.returns-clause-exact
returns-clause-exact g c k x s = IfErr-weaker c.merge_record.result _ _ (λ fault has memory limit. absurd (limit (has memory).0)) (c.merge_record.ensures.limit k x s)

pub returns-clause-limit : goal.returns-clause-limit
returns-clause-limit g c k x s = IfErr-weaker c.merge_record.result _ _ (λ fault has is. (has (λ memory. memory_is_no_limit fault memory is)).1) (c.merge_record.ensures.limit k x s)

pub returns-clause-taken : goal.returns-clause-taken
returns-clause-taken g c k x s =
    let index = c.args.self.now in
    let from = c.args.from in
    let to = c.args.to in
    let none = ap (λ status. calls.status_fault status false) s.status ∙ sym c.check_writer.ensures.value ∙ ap result_err c.in_ok-check_writer.was in
    let tested = range_answered g.A.Analyzer.analyze index k x s from to none c.len.result c.check_range.result (c.len.ensures ∙ index.alive.ok.0) c.check_range.ensures.fault in
    if_ok c.merge_record.result _ (λ prepared is. tested ∙ ap result_err c.in_ok-check_range.was)

pub returns-clause-joins : goal.returns-clause-joins
returns-clause-joins g c k x s =
    let index = c.args.self.now in
    let from = c.args.from in
    let to = c.args.to in
    let cut = g.A.Analyzer.analyze index.analyzer in
    let joined = joined_groups from to x.state.groups in
    if_ok c.merge_record.result _ (λ prepared is.
    (let range = IfOk-at_ok (λ (q : PreparedMerge). (q.from ≡ from) × (q.to ≡ to)) is c.merge_record.ensures.range in
    record { from_is = range.0; to_is = range.1; of = IfOk-at_ok (λ (q : PreparedMerge). MatchOption q.segment (joined ≡ []) (StandsFor index.schema cut joined)) is (c.merge_record.ensures.of k x s) }))

pub returns-clause-replaces : goal.returns-clause-replaces
returns-clause-replaces g c =
    let index = c.args.self.now in
    let from = c.args.from in
    let to = c.args.to in
    let within = c.in_ok-check_range.ensures.within in
    let count = c.len.ensures ∙ index.alive.ok.0 in
    let first = within.0 in
    let inside = within.1 in
    if_ok c.merge_record.result _ (λ prepared is.
    (let range = IfOk-at_ok (λ (q : PreparedMerge). (q.from ≡ from) × (q.to ≡ to)) is c.merge_record.ensures.range in
    let begins = range.0 in
    let ends = range.1 in
    record {
      has_segments = omega (arith, first, begins, ends);
      within = omega (arith, inside, count, ends);
      opened = IfOk-at_ok (λ (q : PreparedMerge). IfSome q.segment (IsOpened index.schema)) is c.merge_record.ensures.opened;
      sets = IfOk-at_ok (λ (q : PreparedMerge). sets_merged q ≡ replaced from to (map all_alive (new_in q)) index.alive.items) is c.merge_record.ensures.sets
          ∙ ap₂ (λ (i j : ℕ). replaced i j (map all_alive (new_in prepared)) index.alive.items) (sym begins) (sym ends);
    }))

pub returns-clause-body : goal.returns-clause-body
returns-clause-body g c k x s =
    let index = c.args.self.now in
    let from = c.args.from in
    let to = c.args.to in
    let segments = index.segments.items in
    let alive = index.alive.items in
    let cut = g.A.Analyzer.analyze index.analyzer in
    let joined = joined_groups from to x.state.groups in
    let within = c.in_ok-check_range.ensures.within in
    let inside = within.1 in
    let count = c.len.ensures ∙ index.alive.ok.0 in
    let all = opened_each index.schema cut s.docs segments s.segments in
    let before = members_of index in
    if_ok c.merge_record.result _ (λ prepared is.
    (let o = prepared.segment in
    let sets = sets_merged prepared in
    let range = IfOk-at_ok (λ (q : PreparedMerge). (q.from ≡ from) × (q.to ≡ to)) is c.merge_record.ensures.range in
    let opened = IfOk-at_ok (λ (q : PreparedMerge). IfSome q.segment (IsOpened index.schema)) is c.merge_record.ensures.opened in
    let are = IfOk-at_ok (λ (q : PreparedMerge). sets_merged q ≡ replaced from to (map all_alive (new_in q)) alive) is c.merge_record.ensures.sets in
    let of = IfOk-at_ok (λ (q : PreparedMerge). MatchOption q.segment (joined ≡ []) (StandsFor index.schema cut joined)) is (c.merge_record.ensures.of k x s) in
    let body = segments_body (merged_parts (length alive) from to (map bytes_of (option_to_list o))) sets in
    let framed = IfOk-at_ok (λ (q : PreparedMerge). merge_frame_in q ≡ frame_bytes (segments_body (merged_parts (length alive) from to (map bytes_of (new_in q))) (sets_merged q))) is c.merge_record.ensures.frame in
    let makes = merge_body index.schema segments (option_to_list o) alive sets from to (length alive) within.0 (omega (arith, inside, count)) index.few refl (few_new o) all (new_opened index.schema o opened) index.flagged are in
    let after = replaced from to (map alive_member (option_to_list o)) before in
    let says : IsMergeBody index.schema cut from to x.state.groups before after body = record {
      news = map alive_member (option_to_list o);
      new = new_alive index.schema cut o joined of;
      list = refl;
      body_is = merge_whole segments (option_to_list o) alive sets from to (length alive) refl index.flagged are;
    } in
    let merged : after ≡ members_merged index prepared = ap₂ (λ (i j : ℕ). replaced i j (map alive_member (option_to_list o)) before) (sym range.0) (sym range.1) in
    let stand : (b : List ℕ) × (merge_frame_in prepared ≡ frame_bytes b) × Makes (IsSegment index.schema) before after b × IsMergeBody index.schema cut from to x.state.groups before after b = (body, framed, makes, says) in
    subst (λ (m : calls.Configuration). (b : List ℕ) × (merge_frame_in prepared ≡ frame_bytes b) × Makes (IsSegment m.schema) before (members_merged index prepared) b × IsMergeBody m.schema m.analyze from to x.state.groups before (members_merged index prepared) b) (sym s.made)
    (subst (λ ms. (b : List ℕ) × (merge_frame_in prepared ≡ frame_bytes b) × Makes (IsSegment index.schema) before ms b × IsMergeBody index.schema cut from to x.state.groups before ms b) merged stand)))

-- ---- of any index

pub returns-in_err-check_writer-clause-refused : goal.returns-in_err-check_writer-clause-refused
returns-in_err-check_writer-clause-refused g c k x s =
    let call = calls.merge_range c.args.from c.args.to in
    let fault = c.in_err-check_writer.field-0.0 in
    let refuses = ap (λ status. calls.status_fault status false) s.status ∙ sym c.check_writer.ensures.value ∙ ap result_err c.in_err-check_writer.was in
    err_has c.from_residual.result fault (λ f. f ≢ faults.OutOfMemory → f ≢ faults.Limit → (f ≡ faults.Damaged None) ⊎ (calls.call_fault k x call ≡ Some f)) c.from_residual.ensures.1 (λ memory limit. inr (status_refuses k x call fault refuses))

pub returns-in_err-check_writer-clause-admitted : goal.returns-in_err-check_writer-clause-admitted
returns-in_err-check_writer-clause-admitted g c k x s = not_ok c.from_residual.result c.in_err-check_writer.field-0.0 _ c.from_residual.ensures.1

pub returns-in_err-check_range-clause-refused : goal.returns-in_err-check_range-clause-refused
returns-in_err-check_range-clause-refused g c k x s =
    let index = c.args.self.now in
    let from = c.args.from in
    let to = c.args.to in
    let call = calls.merge_range from to in
    let none = ap (λ status. calls.status_fault status false) s.status ∙ sym c.check_writer.ensures.value ∙ ap result_err c.in_ok-check_writer.was in
    let tested = range_by g.A.Analyzer.analyze index k x s from to c.len.result c.check_range.result none (c.len.ensures ∙ index.alive.ok.0) c.check_range.ensures.fault in
    let fault = c.in_err-check_range.field-0.0 in
    err_has c.from_residual-in_err-check_range.result fault (λ f. f ≢ faults.OutOfMemory → f ≢ faults.Limit → (f ≡ faults.Damaged None) ⊎ (calls.call_fault k x call ≡ Some f)) c.from_residual-in_err-check_range.ensures.1 (λ memory limit. inr (tested ∙ ap result_err c.in_err-check_range.was))

pub returns-in_err-check_range-clause-admitted : goal.returns-in_err-check_range-clause-admitted
returns-in_err-check_range-clause-admitted g c k x s = not_ok c.from_residual-in_err-check_range.result c.in_err-check_range.field-0.0 _ c.from_residual-in_err-check_range.ensures.1

pub returns-clause-refused : goal.returns-clause-refused
returns-clause-refused g c k x s = err_map c.merge_record.result _ _ (λ fault told memory limit. inl (told memory limit)) c.merge_record.ensures.faults

pub returns-clause-admitted : goal.returns-clause-admitted
returns-clause-admitted g c k x s =
    let index = c.args.self.now in
    let none = ap (λ status. calls.status_fault status false) s.status ∙ sym c.check_writer.ensures.value ∙ ap result_err c.in_ok-check_writer.was in
    let tested = range_by g.A.Analyzer.analyze index k x s c.args.from c.args.to c.len.result c.check_range.result none (c.len.ensures ∙ index.alive.ok.0) c.check_range.ensures.fault in
    if_ok c.merge_record.result _ (λ prepared is. tested ∙ ap result_err c.in_ok-check_range.was)

pub returns-clause-records : goal.returns-clause-records
returns-clause-records g c =
    let index = c.args.self.now in
    let from = c.args.from in
    let to = c.args.to in
    let segments = index.segments.items in
    let alive = index.alive.items in
    let within = c.in_ok-check_range.ensures.within in
    let inside = within.1 in
    let count = c.len.ensures ∙ index.alive.ok.0 in
    let before = members_of index in
    if_ok c.merge_record.result _ (λ prepared is.
    (let o = prepared.segment in
    let range = IfOk-at_ok (λ (q : PreparedMerge). (q.from ≡ from) × (q.to ≡ to)) is c.merge_record.ensures.range in
    let opened = IfOk-at_ok (λ (q : PreparedMerge). IfSome q.segment (IsOpened index.schema)) is c.merge_record.ensures.opened in
    let are = IfOk-at_ok (λ (q : PreparedMerge). sets_merged q ≡ replaced from to (map all_alive (new_in q)) alive) is c.merge_record.ensures.sets in
    let framed = IfOk-at_ok (λ (q : PreparedMerge). merge_frame_in q ≡ frame_bytes (segments_body (merged_parts (length alive) from to (map bytes_of (new_in q))) (sets_merged q))) is c.merge_record.ensures.frame in
    let merged : replaced from to (map alive_member (option_to_list o)) before ≡ members_merged index prepared = ap₂ (λ (i j : ℕ). replaced i j (map alive_member (option_to_list o)) before) (sym range.0) (sym range.1) in
    subst (λ ms. (body : List ℕ) × (merge_frame_in prepared ≡ frame_bytes body) × RecordsSegments index.schema (calls.merge_range from to) before ms body) merged
    (merge_records index.schema (merge_frame_in prepared) segments o alive (sets_merged prepared) from to (length alive) within.0 (omega (arith, inside, count)) index.few refl index.opened opened index.flagged are framed)))
