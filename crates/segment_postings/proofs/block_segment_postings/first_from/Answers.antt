use Rattle.std.proofs.Common.{◌+◌, ◌-◌, ◌/◌, arith}
use Rattle.segment_postings.proofs.Passing.{below_stops}
use Rattle.segment_postings.proofs.block_segment_postings.first_from.Goals.{else-docs-index, then-docs-index}
use Rattle.segment_postings.proofs.block_segment_postings.first_from.Goals as goal

pub loop-len-preserved : goal.loop-len-preserved
loop-len-preserved c =
    let so_far = c.loop-len.invariant in
    let test = c.loop-len-test.true in
    let long = c.told-docs in
    let at = c.loop-len.index + c.loop-len.len / 2 - 1 in
    elim c.if-docs-index.branch [
      | then-docs-index w ↦ (let is = w.index-is in let next = c.requires.order at (omega (arith, so_far, test)) (omega (arith, w.if-docs-index.true)) in omega (arith, so_far, test, is, next))
      | else-docs-index w ↦ (let is = w.index-is in let next = below_stops c.args.target at c.args.docs.now (omega (arith, so_far, test, long)) (omega (arith, w.if-docs-index.false)) in omega (arith, so_far, test, is, next))
    ]
