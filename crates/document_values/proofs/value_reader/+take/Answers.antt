use Rattle.std.proofs.Common.{Some, ap, ◌∙◌, sym}
use Rattle.std.proofs.lemmas.Result.{err_from_is_err_and}
use Rattle.definitions.specs.Values.{array, object}
use Rattle.document_values.specs.CodeHeads.{head_of}
use Rattle.document_values.specs.Shown.{value_of}
use Rattle.layouts.specs.DocumentReading.{take_held, take_member, to_members, to_values}
use Rattle.document_values.proofs.Skips.{array_none, array_some, many_step, member_taken, object_none, object_some}
use Rattle.document_values.proofs.value_reader.+take.Goals as goal

pub skip_members-loop-left-preserved : goal.skip_members-loop-left-preserved
skip_members-loop-left-preserved t c =
    let item = take_held c.args.tokens c.args.depth in
    let one = member_taken item c.loop-left.rest.now _ c.in_ok-behind.behind.now c.in_ok-after.after.now (value_of c.in_ok-after.field-0-0) c.in_ok-behind.ensures.ok c.in_ok-after.ensures.ok in
    sym (many_step (take_member item) c.loop-left.left c.loop-left.rest.now _ c.in_ok-after.after.now c.loop-left-test.true one) ∙ c.loop-left.invariant

pub skip_values-loop-left-preserved : goal.skip_values-loop-left-preserved
skip_values-loop-left-preserved t c = sym (many_step (take_held c.args.tokens c.args.depth) c.loop-left.left c.loop-left.rest.now (value_of c.in_ok-after.field-0-0) c.in_ok-after.after.now c.loop-left-test.true c.in_ok-after.ensures.ok) ∙ c.loop-left.invariant

pub take-returns-in_err-after-in-Array-clause-err : goal.take-returns-in_err-after-in-Array-clause-err
take-returns-in_err-after-in-Array-clause-err t c =
    let p = err_from_is_err_and c.from_residual-in_err-after-in-Array.result c.from_residual-in_err-after-in-Array.ensures.1 in
    rw (p.1, p.2) (
      c.in_err-after-in-Array.ensures.err.0,
      array_none c.args.tokens c.args.depth c.in_ok-depth-in-Array.depth c.in-Array.count c.args.bytes.now c.in_ok-head.rest.now (c.in_ok-head.ensures.ok ∙ ap (λ h. Some (head_of h, c.in_ok-head.rest.now)) c.in-Array.is) c.in_ok-depth-in-Array.ensures.ok c.in_err-after-in-Array.ensures.err.1,
    )

pub take-returns-in_err-after-in-Object-clause-err : goal.take-returns-in_err-after-in-Object-clause-err
take-returns-in_err-after-in-Object-clause-err t c =
    let p = err_from_is_err_and c.from_residual-in_err-after-in-Object.result c.from_residual-in_err-after-in-Object.ensures.1 in
    rw (p.1, p.2) (
      c.in_err-after-in-Object.ensures.err.0,
      object_none c.args.tokens c.args.depth c.in_ok-depth-in-Object.depth c.in-Object.count c.args.bytes.now c.in_ok-head.rest.now (c.in_ok-head.ensures.ok ∙ ap (λ h. Some (head_of h, c.in_ok-head.rest.now)) c.in-Object.is) c.in_ok-depth-in-Object.ensures.ok c.in_err-after-in-Object.ensures.err.1,
    )

pub take-returns-in_ok-after-in-Array-clause-ok : goal.take-returns-in_ok-after-in-Array-clause-ok
take-returns-in_ok-after-in-Array-clause-ok t c =
    array_some c.args.tokens c.args.depth c.in_ok-depth-in-Array.depth c.in-Array.count c.args.bytes.now c.in_ok-head.rest.now c.in_ok-after-in-Array.after.now (c.in_ok-head.ensures.ok ∙ ap (λ h. Some (head_of h, c.in_ok-head.rest.now)) c.in-Array.is) c.in_ok-depth-in-Array.ensures.ok c.in_ok-after-in-Array.ensures.ok
    ∙ ap (λ vs. Some (array (to_values vs), c.in_ok-after-in-Array.after.now)) (sym c.new-values.ensures)

pub take-returns-in_ok-after-in-Object-clause-ok : goal.take-returns-in_ok-after-in-Object-clause-ok
take-returns-in_ok-after-in-Object-clause-ok t c =
    object_some c.args.tokens c.args.depth c.in_ok-depth-in-Object.depth c.in-Object.count c.args.bytes.now c.in_ok-head.rest.now c.in_ok-after-in-Object.after.now (c.in_ok-head.ensures.ok ∙ ap (λ h. Some (head_of h, c.in_ok-head.rest.now)) c.in-Object.is) c.in_ok-depth-in-Object.ensures.ok c.in_ok-after-in-Object.ensures.ok
    ∙ ap (λ ms. Some (object (to_members ms), c.in_ok-after-in-Object.after.now)) (sym c.new-members.ensures)

pub take-new-values-requires : goal.take-new-values-requires
take-new-values-requires t c = (c.in_ok-after-in-Array.after.now, c.in_ok-after-in-Array.ensures.ok)

pub take-new-members-requires : goal.take-new-members-requires
take-new-members-requires t c = (c.in_ok-after-in-Object.after.now, c.in_ok-after-in-Object.ensures.ok)
