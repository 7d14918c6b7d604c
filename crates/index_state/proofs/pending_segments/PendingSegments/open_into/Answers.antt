use Rattle.std.proofs.Common.{[], ap, append_assoc, arith, get_or, length, length-append, subst, sym, take, ◌++◌, ◌+◌, ◌<◌, ◌∙◌, ◌∷◌, ◌≡◌, ◌≤◌}
use Rattle.std.proofs.Math.Logic.{∥∥₁_map}
use Rattle.std.proofs.lemmas.List.{take_all}
use Rattle.std.specs.List.{AllZip}
use Rattle.segment.specs.Opened.{StandsFor}
use Rattle.index_state.proofs.PendingDocs.{full_counted, opened_more, opened_next, segment_at, some_opened}
use Rattle.index_state.proofs.pending_segments.PendingSegments.open_into.Goals as goal

pub new-requires : goal.new-requires
new-requires c =
    let held = c.args.self.now in
    let i = c.loop-full.full-index in
    let one = c.full-item.result in
    let items = c.deref-full-items.ensures.value in
    let there = c.loop-full-test.true in
    let inside : i < length held.full.items = omega (arith, there, ap length items) in
    let one_is : one ≡ get_or held.full.items i one = c.full-item.is ∙ ap (λ ss. get_or ss i one) items in
    ∥∥₁_map c.requires.held (λ h. segment_at c.args.schema.now h.0 h.1 held h.2.0 h.2.1 h.2.2 i one inside one_is c.in_ok-bytes.bytes c.in_ok-bytes.ensures.cases)

pub loop-full-preserved : goal.loop-full-preserved
loop-full-preserved c =
    let schema = c.args.schema.now in
    let held = c.args.self.now in
    let i = c.loop-full.full-index in
    let one = c.full-item.result in
    let items = c.deref-full-items.ensures.value in
    let there = c.loop-full-test.true in
    let inside : i < length held.full.items = omega (arith, there, ap length items) in
    let one_is : one ≡ get_or held.full.items i one = c.full-item.is ∙ ap (λ ss. get_or ss i one) items in
    let was = c.loop-full.segments.items in
    let segment = c.in_ok-segment.segment in
    let opened = c.in_ok-segment.ensures.ok in
    let same = c.in_ok-segment.ensures.bytes ∙ c.in_ok-bytes.ensures.cases in
    let pushed = c.in_ok-push.ensures.items in
    let invariant = c.loop-full.invariant in
    let counted = invariant.counted in
    let longer = ap length pushed in
    let one_more = length-append was (segment ∷ []) in
    record {
      opened = λ all. opened_more schema was c.push.new.self.items segment (invariant.opened all) opened pushed;
      behind = (invariant.behind.0 ++ segment ∷ [], pushed ∙ (ap (λ ss. ss ++ segment ∷ []) invariant.behind.1 ∙ append_assoc c.args.segments.now.items invariant.behind.0 (segment ∷ [])));
      counted = omega (arith, counted, longer, one_more);
      stand = λ analyze block_size docs full last stand h. subst (AllZip (StandsFor schema analyze) (docs ++ take (i + 1) full)) (sym pushed) (opened_next schema analyze block_size held full last h i one inside one_is docs was segment (invariant.stand analyze block_size docs full last stand h) opened same);
    }

pub returns-in_err-bytes-clause-err : goal.returns-in_err-bytes-clause-err
returns-in_err-bytes-clause-err c analyze block_size docs full last stand h =
    some_opened c.from_residual.result c.args.schema.now analyze docs (take c.loop-full.full-index full) c.loop-full.segments.items (c.loop-full.invariant.stand analyze block_size docs full last stand h)

pub returns-in_err-segment-clause-err : goal.returns-in_err-segment-clause-err
returns-in_err-segment-clause-err c analyze block_size docs full last stand h =
    some_opened c.from_residual-in_err-segment.result c.args.schema.now analyze docs (take c.loop-full.full-index full) c.loop-full.segments.items (c.loop-full.invariant.stand analyze block_size docs full last stand h)

pub returns-in_err-push-clause-err : goal.returns-in_err-push-clause-err
returns-in_err-push-clause-err c analyze block_size docs full last stand h =
    let some = take c.loop-full.full-index full in
    some_opened c.from_residual-in_err-push.result c.args.schema.now analyze docs some c.push.new.self.items
    (subst (AllZip (StandsFor c.args.schema.now analyze) (docs ++ some)) (sym c.in_err-push.ensures.items) (c.loop-full.invariant.stand analyze block_size docs full last stand h))

pub returns-clause-ok : goal.returns-clause-ok
returns-clause-ok c analyze block_size docs full last stand h =
    let i = c.loop-full.full-index in
    let past = c.loop-full-test.false in
    let many = full_counted c.args.schema.now analyze block_size c.args.self.now full last h in
    let all : length full ≤ i = omega (arith, past, many, ap length c.deref-full-items.ensures.value) in
    subst (λ ds. AllZip (StandsFor c.args.schema.now analyze) (docs ++ ds) c.loop-full.segments.items) (take_all i full all) (c.loop-full.invariant.stand analyze block_size docs full last stand h)
