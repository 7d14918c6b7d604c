use Rattle.codes.proofs.VintLists.{all_behind_nothing, is_not_empty, next_number, one_read}
use Rattle.std.proofs.Common.{IsSome, arith, length, subst, ◌<◌, ◌≢◌}
use Rattle.codes.proofs.vint.read_all_numbers.Goals as goal

pub loop-rest-init : goal.loop-rest-init
loop-rest-init c = (all_behind_nothing _, omega arith)

pub first_number-number-requires : goal.first_number-number-requires
first_number-number-requires c =
    let more : length c.loop-rest.rest.now ≢ 0 = is_not_empty (length c.loop-rest.rest.now) c.loop-rest-test.ensures in
    (next_number c.loop-rest.rest.now c.loop-rest.output 128 c.loop-rest.count (subst (λ o. IsSome o) c.loop-rest.invariant.0 c.requires) more).1

pub bounds-output-count : goal.bounds-output-count
bounds-output-count c =
    let more : length c.loop-rest.rest.now ≢ 0 = is_not_empty (length c.loop-rest.rest.now) c.loop-rest-test.ensures in
    (next_number c.loop-rest.rest.now c.loop-rest.output 128 c.loop-rest.count (subst (λ o. IsSome o) c.loop-rest.invariant.0 c.requires) more).0

pub loop-rest-smaller : goal.loop-rest-smaller
loop-rest-smaller c =
    let more : length c.loop-rest.rest.now ≢ 0 = is_not_empty (length c.loop-rest.rest.now) c.loop-rest-test.ensures in
    let next = next_number c.loop-rest.rest.now c.loop-rest.output 128 c.loop-rest.count (subst (λ o. IsSome o) c.loop-rest.invariant.0 c.requires) more in
    let inside : c.loop-rest.count < 128 = next.0 in
    omega arith

pub loop-rest-preserved : goal.loop-rest-preserved
loop-rest-preserved c =
    let more : length c.loop-rest.rest.now ≢ 0 = is_not_empty (length c.loop-rest.rest.now) c.loop-rest-test.ensures in
    let next = next_number c.loop-rest.rest.now c.loop-rest.output 128 c.loop-rest.count (subst (λ o. IsSome o) c.loop-rest.invariant.0 c.requires) more in
    let inside : c.loop-rest.count < 128 = next.0 in
    let within : c.loop-rest.count < length c.loop-rest.output = omega arith in
    (one_read c.args.bytes.now c.loop-rest.rest.now c.first_number-number.result.1.now c.loop-rest.output 128 c.loop-rest.count c.first_number-number.result.0 c.loop-rest.invariant.0 inside within more c.first_number-number.ensures, omega arith)
