use Rattle.std.proofs.Common.{arith, refl, ◌+◌, map}
use Rattle.segment.proofs.Counts.{count_front, count_more, mapped_at, mapped_within, set_living}
use Rattle.segment.specs.Members.{member_of}
use Rattle.segment.proofs.living_counts.num_living.Goals as goal

pub returns-then-num_alive-sum-clause-err : goal.returns-then-num_alive-sum-clause-err
returns-then-num_alive-sum-clause-err c =
    let inside = c.loop-member-test.true in
    let i = c.loop-member.member-index in
    let ms = map member_of c.args.members.now in
    let m = member_of c.member-item.result in
    let is = mapped_at member_of i c.args.members.now c.member-item.result c.member-item.is inside in
    let within_all = mapped_within member_of i c.args.members.now inside in
    let sum = c.loop-member.invariant.sum in
    let few = c.loop-member.invariant.few in
    let alive = c.num_alive-num_alive.ensures in
    let same = set_living m.1 in
    let more = count_more i ms m is within_all in
    let front = count_front (i + 1) ms in
    let past = c.if-num_alive-sum.true in
    (refl, omega (arith, sum, few, alive, same, more, front, past))

pub loop-member-preserved : goal.loop-member-preserved
loop-member-preserved c =
    let inside = c.loop-member-test.true in
    let i = c.loop-member.member-index in
    let ms = map member_of c.args.members.now in
    let m = member_of c.member-item.result in
    let is = mapped_at member_of i c.args.members.now c.member-item.result c.member-item.is inside in
    let within_all = mapped_within member_of i c.args.members.now inside in
    let sum = c.loop-member.invariant.sum in
    let few = c.loop-member.invariant.few in
    let alive = c.num_alive-num_alive.ensures in
    let same = set_living m.1 in
    let more = count_more i ms m is within_all in
    let within = c.if-num_alive-sum.false in
    record { sum = omega (arith, sum, alive, same, more); few = omega (arith, few, within) }
