use Rattle.std.proofs.Common.{[], List, ap, ap₂, arith, length, map, subst, sym, ◌++◌, ◌∙◌, Bool}
use Rattle.std.proofs.Math.Logic.{∥∥₁_map}
use Rattle.definitions.proofs.Lists.{on_err}
use Rattle.definitions.specs.State.{as_group}
use Rattle.definitions.specs.declared.fault.Fault.TheVariants as faults
use Rattle.index_file.proofs.ErrorsKept.{err_has}
use Rattle.index_file.specs.Frames.{frame_bytes}
use Rattle.segment.specs.Opened.{bytes_of}
use Rattle.segment.specs.declared.segment.Segment.{Segment}
use Rattle.segment_definitions.specs.ListBodies.{segments_body}
use Rattle.index_state.proofs.Outcomes.{memory_is_no_limit}
use Rattle.index_state.proofs.RecordsLaid.{all_are_some, closed_behind, closed_counted, no_limit, none_behind, some_closed}
use Rattle.index_state.proofs.Standings.{flagged_behind}
use Rattle.index_state.specs.Bodies.{next_parts}
use Rattle.index_state.specs.CommitRecords.{LastPasses, LeavesRows}
use Rattle.index_state.specs.Flags.{AreFlagged}
use Rattle.index_state.proofs.commit_record.record_of_opened.Goals as goal

pub returns-in_err-close-clause-err : goal.returns-in_err-close-clause-err
returns-in_err-close-clause-err c = on_err c.from_residual.result (none_behind c.args.schema.now c.args.pending c.args.segments.now.items)

pub returns-in_err-close-clause-limit : goal.returns-in_err-close-clause-limit
returns-in_err-close-clause-limit c = err_has c.from_residual.result c.in_err-close.field-0.0 (LastPasses c.args.schema.now c.args.pending) c.from_residual.ensures.1 c.in_err-close.ensures.limit

pub open_into-requires : goal.open_into-requires
open_into-requires c = record { held = ∥∥₁_map c.requires.held (λ h. (h.0, h.1, (h.2.0 ++ as_group h.2.1, [], c.in_ok-close.ensures.ok h.0 h.1 h.2.0 h.2.1 h.2.2))) }

pub returns-in_err-open_into-clause-err : goal.returns-in_err-open_into-clause-err
returns-in_err-open_into-clause-err c = on_err c.from_residual-in_err-open_into.result (some_closed c.args.schema.now c.args.pending c.close.new.self c.args.segments.now.items c.open_into.new.segments.items c.in_ok-close.ensures.ok c.in_err-open_into.ensures.err)

pub returns-in_err-open_into-clause-limit : goal.returns-in_err-open_into-clause-limit
returns-in_err-open_into-clause-limit c = no_limit c.from_residual-in_err-open_into.result c.args.schema.now c.args.pending c.from_residual-in_err-open_into.ensures.1

-- ---- its sets

pub next_sets-requires : goal.next_sets-requires
next_sets-requires c = record { flagged = subst (λ (ss : List Segment). AreFlagged ss c.args.alive.now) (sym c.deref.ensures.value) (flagged_behind c.args.segments.now.items c.open_into.ensures.behind.0 c.open_into.new.segments.items c.args.alive.now c.open_into.ensures.behind.1 c.requires.flagged) }

pub returns-in_err-sets-clause-err : goal.returns-in_err-sets-clause-err
returns-in_err-sets-clause-err c =
    let old = c.args.segments.now.items in
    let new = c.open_into.new.segments.items in
    on_err c.from_residual-in_err-sets.result (all_are_some c.args.schema.now c.args.pending old new (closed_behind c.args.schema.now c.args.pending c.close.new.self old new c.in_ok-close.ensures.ok c.in_ok-open_into.ensures.ok))

pub returns-in_err-sets-clause-limit : goal.returns-in_err-sets-clause-limit
returns-in_err-sets-clause-limit c = no_limit c.from_residual-in_err-sets.result c.args.schema.now c.args.pending c.from_residual-in_err-sets.ensures.1

-- ---- its frame

pub commit_frame-requires-clause-few : goal.commit_frame-requires-clause-few
commit_frame-requires-clause-few c =
    let count = c.in_ok-open_into.ensures.count in
    let closed = closed_counted c.args.schema.now c.args.pending c.close.new.self c.requires.held c.in_ok-close.ensures.ok in
    let each = c.requires.each in
    let few = c.requires.few in
    let same = ap length c.deref-2.ensures.value in
    omega (arith, count, closed, each, few, same)

pub commit_frame-requires-clause-within : goal.commit_frame-requires-clause-within
commit_frame-requires-clause-within c =
    let count = c.in_ok-open_into.ensures.count in
    let each = c.requires.each in
    let same = ap length c.deref-2.ensures.value in
    omega (arith, count, each, same)

pub returns-in_err-frame-clause-err : goal.returns-in_err-frame-clause-err
returns-in_err-frame-clause-err c =
    let old = c.args.segments.now.items in
    let new = c.open_into.new.segments.items in
    on_err c.from_residual-in_err-frame.result (all_are_some c.args.schema.now c.args.pending old new (closed_behind c.args.schema.now c.args.pending c.close.new.self old new c.in_ok-close.ensures.ok c.in_ok-open_into.ensures.ok))

pub returns-in_err-frame-clause-limit : goal.returns-in_err-frame-clause-limit
returns-in_err-frame-clause-limit c = err_has c.from_residual-in_err-frame.result c.in_err-frame.field-0.0 (LastPasses c.args.schema.now c.args.pending) c.from_residual-in_err-frame.ensures.1 (λ analyze block_size full last holds limit. absurd (memory_is_no_limit c.in_err-frame.field-0.0 c.in_err-frame.ensures.err limit))

pub returns-in_err-from_vec-clause-err : goal.returns-in_err-from_vec-clause-err
returns-in_err-from_vec-clause-err c =
    let old = c.args.segments.now.items in
    let new = c.open_into.new.segments.items in
    on_err c.from_residual-in_err-from_vec.result (all_are_some c.args.schema.now c.args.pending old new (closed_behind c.args.schema.now c.args.pending c.close.new.self old new c.in_ok-close.ensures.ok c.in_ok-open_into.ensures.ok))

pub returns-in_err-from_vec-clause-limit : goal.returns-in_err-from_vec-clause-limit
returns-in_err-from_vec-clause-limit c = no_limit c.from_residual-in_err-from_vec.result c.args.schema.now c.args.pending c.from_residual-in_err-from_vec.ensures.1

-- ---- what is prepared

pub returns-clause-ok : goal.returns-clause-ok
returns-clause-ok c = closed_behind c.args.schema.now c.args.pending c.close.new.self c.args.segments.now.items c.open_into.new.segments.items c.in_ok-close.ensures.ok c.in_ok-open_into.ensures.ok

pub returns-clause-flagged : goal.returns-clause-flagged
returns-clause-flagged c = subst (λ (ss : List Segment). AreFlagged ss c.in_ok-sets.sets.items) c.deref.ensures.value c.in_ok-sets.ensures.flagged

pub returns-clause-each : goal.returns-clause-each
returns-clause-each c = c.in_ok-sets.ensures.each ∙ ap length c.deref.ensures.value

pub returns-clause-rows : goal.returns-clause-rows
returns-clause-rows c = subst (λ (ss : List Segment). LeavesRows c.args.alive.now c.args.deletions.now ss c.in_ok-sets.sets.items) c.deref.ensures.value c.in_ok-sets.ensures.rows

pub returns-clause-frame : goal.returns-clause-frame
returns-clause-frame c =
    let k = length c.args.alive.now in
    c.in_ok-from_vec.ensures.ok
    ∙ c.in_ok-frame.ensures.ok
    ∙ ap₂ (λ (ss : List Segment) (fs : List (List Bool)). frame_bytes (segments_body (next_parts k (map bytes_of ss)) fs)) c.deref-2.ensures.value c.deref-3.ensures.value

pub returns-clause-count : goal.returns-clause-count
returns-clause-count c =
    let count = c.in_ok-open_into.ensures.count in
    let closed = closed_counted c.args.schema.now c.args.pending c.close.new.self c.requires.held c.in_ok-close.ensures.ok in
    omega (arith, count, closed)
