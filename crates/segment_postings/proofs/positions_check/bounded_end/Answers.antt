use Rattle.std.proofs.Common.{ap, arith, length}
use Rattle.segment_postings.proofs.BoundedNumbers.{prefix_next}
use Rattle.segment_postings.proofs.positions_check.bounded_end.Goals as goal

pub is_bounded-requires-clause-within : goal.is_bounded-requires-clause-within
is_bounded-requires-clause-within c =
    let next = prefix_next c.args.counts.now c.loop-count.count-index (omega arith) in
    let is = c.loop-count.invariant.end_is in
    let room = c.requires.within in
    let same = ap length c.loop-count.invariant.same in
    omega (arith, next, is, room, same)

pub is_bounded-requires-clause-few : goal.is_bounded-requires-clause-few
is_bounded-requires-clause-few c =
    let next = prefix_next c.args.counts.now c.loop-count.count-index (omega arith) in
    let is = c.loop-count.invariant.end_is in
    let room = c.requires.few in
    omega (arith, next, is, room)

pub overflow_add-end : goal.overflow_add-end
overflow_add-end c =
    let next = prefix_next c.args.counts.now c.loop-count.count-index (omega arith) in
    let is = c.loop-count.invariant.end_is in
    let room = c.requires.few in
    let from = c.from-end.ensures in
    omega (arith, next, is, room, from)
