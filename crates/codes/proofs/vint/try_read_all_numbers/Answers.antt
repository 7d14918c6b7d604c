use Rattle.codes.proofs.VintLists.{all_behind_nothing, is_not_empty, one_read, one_unread}
use Rattle.std.proofs.lemmas.Result.{err_from_is_err_and}
use Rattle.std.proofs.Common.{arith, length, ◌<◌, ◌≢◌}
use Rattle.codes.proofs.vint.try_read_all_numbers.Goals as goal

pub loop-rest-init : goal.loop-rest-init
loop-rest-init c = (all_behind_nothing _, omega arith)

pub loop-rest-preserved : goal.loop-rest-preserved
loop-rest-preserved c =
    let more : length c.loop-rest.rest.now ≢ 0 = is_not_empty (length c.loop-rest.rest.now) c.loop-rest-test.ensures in
    let inside : c.loop-rest.count < 128 = omega arith in
    let within : c.loop-rest.count < length c.loop-rest.output = omega arith in
    (one_read c.args.bytes.now c.loop-rest.rest.now c.in_ok-number.after.now c.loop-rest.output 128 c.loop-rest.count c.in_ok-number.number c.loop-rest.invariant.0 inside within more c.in_ok-number.ensures.ok, omega arith)

pub returns-in_err-number-clause-err : goal.returns-in_err-number-clause-err
returns-in_err-number-clause-err c =
    let p = err_from_is_err_and c.from_residual.result c.from_residual.ensures.1 in
    let refused = c.in_err-number.ensures.err in
    let more : length c.loop-rest.rest.now ≢ 0 = is_not_empty (length c.loop-rest.rest.now) c.loop-rest-test.ensures in
    let inside : c.loop-rest.count < 128 = omega arith in
    rw (p.1, p.2) (refused.0, one_unread c.args.bytes.now c.loop-rest.rest.now c.loop-rest.output 128 c.loop-rest.count c.loop-rest.invariant.0 inside more refused.1)
