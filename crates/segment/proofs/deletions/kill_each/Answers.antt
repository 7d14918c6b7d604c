use Rattle.std.proofs.Common.{ap, arith, length, subst, sym, take, ◌<◌, ◌≡◌, ◌∙◌, false, slice_set, slice_index_or}
use Rattle.segment.specs.Killed.{before}
use Rattle.segment.proofs.KilledFlags.{all_at, killed_none, killed_one, length-killed}
use Rattle.segment.proofs.deletions.kill_each.Goals as goal
use Rattle.segment.proofs.deletions.kill_each.Goals.{then-doc-end, else-doc-end}

pub kill-requires : goal.kill-requires
kill-requires c =
    let docs = c.args.docs.now in
    let i = c.loop-doc.doc-index in
    let long : length c.loop-doc.alive ≡ length c.args.alive.now = ap length c.loop-doc.invariant ∙ length-killed (before c.args.end (take i docs)) c.args.alive.now in
    subst (λ n. slice_index_or docs i 0 < n) (sym long) (all_at (λ doc. doc < length c.args.alive.now) docs i c.requires c.loop-doc-test.true)

pub loop-doc-preserved : goal.loop-doc-preserved
loop-doc-preserved c =
    let docs = c.args.docs.now in
    let end = c.args.end in
    let i = c.loop-doc.doc-index in
    elim c.if-doc-end.branch [
      | then-doc-end w ↦ w.alive-is ∙ w.kill.ensures ∙ ap (λ flags. slice_set flags (slice_index_or docs i 0) false) c.loop-doc.invariant ∙ sym (killed_one end docs i c.args.alive.now c.loop-doc-test.true w.if-doc-end.true)
      | else-doc-end w ↦ w.alive-is ∙ c.loop-doc.invariant ∙ sym (killed_none end docs i c.args.alive.now c.loop-doc-test.true (let late = w.if-doc-end.false in omega (arith, late)))
    ]
