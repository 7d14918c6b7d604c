use Rattle.std.proofs.Common.{Bool, IfOk, List, None, Some, ap, ap₂, inl, inr, length, map, min, refl, subst, sym, true, ◌∙◌, ◌≡◌, ◌≢◌, ◌⊎◌, ⊎_elim, ℕ}
use Rattle.std.proofs.lemmas.Result.{IfOk-weaker}
use Rattle.std.proofs.Math.Logic.{∥∥₁_map}
use Rattle.std.specs.List.{AllByRecursion, AllZip, zip}
use Rattle.std.specs.Result.{result_err}
use Rattle.definitions.specs.Alive.{live}
use Rattle.definitions.specs.Calls as calls
use Rattle.definitions.specs.Refusing.{refusal}
use Rattle.definitions.specs.Scanning.{scan}
use Rattle.definitions.specs.Settings.{similarity_of}
use Rattle.definitions.specs.State as states
use Rattle.definitions.specs.declared.fault.Fault.TheVariants as faults
use Rattle.query_trees.specs.Queries.{query_of}
use Rattle.segment.specs.Opened.{IsOpened, StandsFor, bytes_of}
use Rattle.index_state.proofs.Outcomes.{closed_is_no_memory, own_refuses, status_refuses}
use Rattle.definitions.proofs.Lists.{err_map}
use Rattle.index_file.proofs.ErrorsKept.{err_has}
use Rattle.index_state.proofs.Searching.{live_committed, members_rows, ok_both, query_refused, query_taken, segments_counted, segments_held}
use Rattle.index_state.proofs.Shadows.{not_ok, query_by}
use Rattle.index_state.proofs.Standings.{pending_kept, stands_with}
use Rattle.index_state.specs.DecodedBlocks.{HasRows}
use Rattle.index_state.specs.Flags.{AreFlagged, flagged_each}
use Rattle.index_state.specs.Standing.{members_of}
use Rattle.segment_search.specs.Answered.{AreHits}
use Rattle.segment_search.specs.Counted.{blocks_decoded, greatest_count, nothing_kept}
use Rattle.segment_search.specs.Hits.{scored, shown_hit}
use Rattle.index_state.proofs.index_state.IndexState.search_counted.Goals as goal

pub returns-in_err-check_open-clause-err : goal.returns-in_err-check_open-clause-err
returns-in_err-check_open-clause-err g c k x s =
    let call = calls.search_best (query_of c.args.query.now) c.args.limit in
    let fault = c.in_err-check_open.field-0.0 in
    err_has c.from_residual.result fault (λ f. f ≢ faults.OutOfMemory → calls.call_fault k x call ≡ Some f) c.from_residual.ensures.1
    (λ other. status_refuses k x call fault (ap (λ status. calls.status_fault status true) s.status ∙ sym c.check_open.ensures.value ∙ ap result_err c.in_err-check_open.was))

pub invariant_of-self : goal.invariant_of-self
invariant_of-self g c =
    let index = c.args.self.now in
    let kept = c.search_counted.ensures.kept in
    let held = segments_held index.segments c.deref_mut.result.now c.search_counted.new.segments c.deref_mut.ensures.len kept in
    record {
      opened = ∥∥₁_map index.opened (λ all. subst (AllByRecursion (IsOpened index.schema)) (sym held) (kept.opened index.schema (subst (AllByRecursion (IsOpened index.schema)) (sym c.deref_mut.ensures.value) all)));
      flagged = subst (λ ss. AreFlagged ss index.alive.items) (sym held) (subst (AreFlagged c.search_counted.new.segments) c.deref.ensures.value c.search_counted.ensures.flagged);
      held = index.held;
      few = index.few;
    }

pub returns-clause-ok : goal.returns-clause-ok
returns-clause-ok g c k x s =
    let index = c.args.self.now in
    let analyze = g.A.Analyzer.analyze index.analyzer in
    let q = query_of c.args.query.now in
    let call = calls.search_best q c.args.limit in
    let ready = ap (λ status. calls.status_fault status true) s.status ∙ sym c.check_open.ensures.value ∙ ap result_err c.in_ok-check_open.was in
    let stands = subst (AllZip (StandsFor index.schema analyze) s.docs) (sym c.deref_mut.ensures.value) s.segments in
    let seen = ap (λ sets. live (flagged_each s.docs sets)) c.deref.ensures.value ∙ live_committed g.A.Analyzer.analyze index k x s in
    ok_both c.search_counted.result _ _ _
    (λ found taken told. (
      own_refuses k x call ready ∙ query_taken g.A.Analyzer.analyze index k x s q taken,
      subst (λ (m : calls.Configuration). map (shown_hit index.schema) found.0.items ≡ map scored (scan m.schema m.analyze m.similarity (states.committed x.state) q c.args.limit)) (sym s.made)
          (told ∙ ap (λ ds. map scored (scan index.schema analyze (similarity_of index.settings) ds q c.args.limit)) seen),
    ))
    c.search_counted.ensures.accepted (c.search_counted.ensures.ok analyze s.docs stands)

pub returns-clause-counted : goal.returns-clause-counted
returns-clause-counted g c k x t option s is =
    let index = c.args.self.now in
    let analyze = g.A.Analyzer.analyze index.analyzer in
    let stands = subst (AllZip (StandsFor index.schema analyze) s.docs) (sym c.deref_mut.ensures.value) s.segments in
    let decoded : calls.Configuration → List (List Bool) → ℕ = λ m sets. min greatest_count (blocks_decoded m.schema m.analyze m.similarity t option (nothing_kept c.args.limit) 0 (flagged_each s.docs sets)) in
    IfOk-weaker c.search_counted.result _ _
    (λ found told. record {
      rows = flagged_each s.docs index.alive.items;
      rows_are = subst (λ (m : calls.Configuration). AllZip (HasRows m.schema m.analyze) (flagged_each s.docs index.alive.items) (members_of index)) (sym s.made) (members_rows index.schema analyze s.docs index.segments.items index.alive.items s.segments index.flagged);
      living = s.groups;
      counted = told ∙ ap₂ decoded (sym s.made) c.deref.ensures.value;
    })
    (c.search_counted.ensures.counted analyze s.docs t option stands is)

pub returns-clause-err : goal.returns-clause-err
returns-clause-err g c k x s =
    let index = c.args.self.now in
    let analyze = g.A.Analyzer.analyze index.analyzer in
    let q = query_of c.args.query.now in
    let call = calls.search_best q c.args.limit in
    let ready = ap (λ status. calls.status_fault status true) s.status ∙ sym c.check_open.ensures.value ∙ ap result_err c.in_ok-check_open.was in
    let stands = subst (AllZip (StandsFor index.schema analyze) s.docs) (sym c.deref_mut.ensures.value) s.segments in
    err_map c.search_counted.result _ _ (λ fault told other. own_refuses k x call ready ∙ query_refused g.A.Analyzer.analyze index k x s q fault (told other)) (c.search_counted.ensures.refused analyze s.docs stands)

pub returns-clause-left : goal.returns-clause-left
returns-clause-left g c k x s =
    let index = c.args.self.now in
    let analyze = g.A.Analyzer.analyze index.analyzer in
    let kept = c.search_counted.ensures.kept in
    let held = segments_held index.segments c.deref_mut.result.now c.search_counted.new.segments c.deref_mut.ensures.len kept in
    let stands = subst (AllZip (StandsFor index.schema analyze) s.docs) (sym c.deref_mut.ensures.value) s.segments in
    stands_with g.A.Analyzer.analyze index _ (record { analyzer = refl; schema = refl; settings = refl }) k x s x s.docs
    (subst (AllZip (StandsFor index.schema analyze) s.docs) (sym held) (kept.stands index.schema analyze s.docs stands)) s.status s.groups
    (λ ready.
    let p = s.pending ready in
    pending_kept g.A.Analyzer.analyze index _ (record { analyzer = refl; schema = refl; settings = refl }) k x s refl refl (ap length held ∙ segments_counted c.deref_mut.result.now c.search_counted.new.segments kept ∙ ap length c.deref_mut.ensures.value ∙ p.committed) p)

pub returns-clause-members : goal.returns-clause-members
returns-clause-members g c =
    let index = c.args.self.now in
    let kept = c.search_counted.ensures.kept in
    let held = segments_held index.segments c.deref_mut.result.now c.search_counted.new.segments c.deref_mut.ensures.len kept in
    ap (λ bs. zip bs index.alive.items) (ap (map bytes_of) held ∙ kept.bytes ∙ ap (map bytes_of) c.deref_mut.ensures.value)

pub returns-in_err-check_open-clause-own : goal.returns-in_err-check_open-clause-own
returns-in_err-check_open-clause-own g c k x s =
    let call = calls.search_best (query_of c.args.query.now) c.args.limit in
    err_has c.from_residual.result c.in_err-check_open.field-0.0 (λ f. f ≡ faults.OutOfMemory → calls.call_fault k x call ≡ None) c.from_residual.ensures.1
    (λ memory. absurd (closed_is_no_memory (sym c.in_err-check_open.ensures.fault ∙ memory)))

pub returns-clause-faults : goal.returns-clause-faults
returns-clause-faults g c = err_map c.search_counted.result _ _ (λ fault told. inr told) c.search_counted.ensures.faults

pub returns-clause-own : goal.returns-clause-own
returns-clause-own g c k x s =
    let index = c.args.self.now in
    let q = query_of c.args.query.now in
    let call = calls.search_best q c.args.limit in
    let ready = ap (λ status. calls.status_fault status true) s.status ∙ sym c.check_open.ensures.value ∙ ap result_err c.in_ok-check_open.was in
    err_map c.search_counted.result _ _ (λ fault told memory. own_refuses k x call ready ∙ query_taken g.A.Analyzer.analyze index k x s q (told memory)) c.search_counted.ensures.own

pub returns-in_err-check_open-clause-memory : goal.returns-in_err-check_open-clause-memory
returns-in_err-check_open-clause-memory g c =
    let index = c.args.self.now in
    err_has c.from_residual.result c.in_err-check_open.field-0.0 (λ f. f ≡ faults.OutOfMemory → refusal index.schema (similarity_of index.settings).weight (query_of c.args.query.now) ≡ None) c.from_residual.ensures.1
    (λ memory. absurd (closed_is_no_memory (sym c.in_err-check_open.ensures.fault ∙ memory)))

pub returns-clause-accepted : goal.returns-clause-accepted
returns-clause-accepted g c = c.search_counted.ensures.accepted

pub returns-clause-memory : goal.returns-clause-memory
returns-clause-memory g c = c.search_counted.ensures.own

pub returns-clause-uncounted : goal.returns-clause-uncounted
returns-clause-uncounted g c other = c.search_counted.ensures.uncounted other

-- ---- of any index

pub returns-in_err-check_open-clause-refused : goal.returns-in_err-check_open-clause-refused
returns-in_err-check_open-clause-refused g c k x s =
    let call = calls.search_best (query_of c.args.query.now) c.args.limit in
    let fault = c.in_err-check_open.field-0.0 in
    err_has c.from_residual.result fault (λ f. f ≢ faults.OutOfMemory → (f ≡ faults.Damaged None) ⊎ (calls.call_fault k x call ≡ Some f)) c.from_residual.ensures.1
    (λ other. inr (status_refuses k x call fault (ap (λ status. calls.status_fault status true) s.status ∙ sym c.check_open.ensures.value ∙ ap result_err c.in_err-check_open.was)))

pub returns-in_err-check_open-clause-admitted : goal.returns-in_err-check_open-clause-admitted
returns-in_err-check_open-clause-admitted g c k x s =
    not_ok c.from_residual.result c.in_err-check_open.field-0.0 _ c.from_residual.ensures.1

pub returns-clause-refused : goal.returns-clause-refused
returns-clause-refused g c k x s =
    let index = c.args.self.now in
    let q = query_of c.args.query.now in
    let call = calls.search_best q c.args.limit in
    let ready = ap (λ status. calls.status_fault status true) s.status ∙ sym c.check_open.ensures.value ∙ ap result_err c.in_ok-check_open.was in
    err_map c.search_counted.result _ _
    (λ fault told memory. ⊎_elim (λ m. absurd (memory m)) (λ other. ⊎_elim (λ damaged. inl damaged) (λ refuses. inr (own_refuses k x call ready ∙ query_by g.A.Analyzer.analyze index k x s q (Some fault) refuses)) other) told)
    c.search_counted.ensures.faults

pub returns-clause-admitted : goal.returns-clause-admitted
returns-clause-admitted g c k x s =
    let index = c.args.self.now in
    let q = query_of c.args.query.now in
    let call = calls.search_best q c.args.limit in
    let ready = ap (λ status. calls.status_fault status true) s.status ∙ sym c.check_open.ensures.value ∙ ap result_err c.in_ok-check_open.was in
    IfOk-weaker c.search_counted.result _ _ (λ found taken. own_refuses k x call ready ∙ query_by g.A.Analyzer.analyze index k x s q None taken) c.search_counted.ensures.accepted

pub returns-clause-same : goal.returns-clause-same
returns-clause-same g c =
    let index = c.args.self.now in
    let kept = c.search_counted.ensures.kept in
    let held = segments_held index.segments c.deref_mut.result.now c.search_counted.new.segments c.deref_mut.ensures.len kept in
    record {
      made = record { analyzer = refl; schema = refl; settings = refl };
      members = ap (λ bs. zip bs index.alive.items) (ap (map bytes_of) held ∙ kept.bytes ∙ ap (map bytes_of) c.deref_mut.ensures.value);
      waiting = refl;
      status = refl;
    }

pub returns-clause-answered : goal.returns-clause-answered
returns-clause-answered g c =
    let index = c.args.self.now in
    let segments = c.deref_mut.result.now in
    subst (λ ss. IfOk c.search_counted.result (λ found. AreHits index.schema ss index.alive.items c.args.limit (map (shown_hit index.schema) found.0.items))) c.deref_mut.ensures.value
    (subst (λ sets. IfOk c.search_counted.result (λ found. AreHits index.schema segments sets c.args.limit (map (shown_hit index.schema) found.0.items))) c.deref.ensures.value c.search_counted.ensures.answered)
