use Rattle.std.proofs.lemmas.Result.{err_from_is_err_and}
use Rattle.std.proofs.Common.{arith, length, take, ◌<◌, ◌≡◌}
use Rattle.codes.proofs.VintLists.{all_read, number_read, number_unread, numbers_follow}
use Rattle.codes.proofs.vint.try_read_numbers.Goals as goal

pub loop-index-preserved : goal.loop-index-preserved
loop-index-preserved c =
    let inside : c.loop-index.index < length c.loop-index.output = omega arith in
    number_read c.args.bytes.now c.loop-index.rest.now c.in_ok-number.after.now c.loop-index.output c.args.count c.loop-index.index c.in_ok-number.number c.loop-index.invariant (omega arith) inside c.in_ok-number.ensures.ok

pub overflow_sub-result : goal.overflow_sub-result
overflow_sub-result c =
    let all : c.loop-index.index ≡ c.args.count = omega arith in
    (numbers_follow c.args.count c.args.bytes.now (take c.args.count c.loop-index.output) c.loop-index.rest.now (λ i. (let h = c.type_inv.bytes i in omega arith)) (all_read c.args.bytes.now c.loop-index.rest.now c.loop-index.output c.args.count c.loop-index.index c.loop-index.invariant all)).0

pub returns-clause-ok : goal.returns-clause-ok
returns-clause-ok c =
    let all : c.loop-index.index ≡ c.args.count = omega arith in
    (omega arith, (numbers_follow c.args.count c.args.bytes.now (take c.args.count c.loop-index.output) c.loop-index.rest.now (λ i. (let h = c.type_inv.bytes i in omega arith)) (all_read c.args.bytes.now c.loop-index.rest.now c.loop-index.output c.args.count c.loop-index.index c.loop-index.invariant all)).1)

pub returns-in_err-number-clause-err : goal.returns-in_err-number-clause-err
returns-in_err-number-clause-err c =
    let p = err_from_is_err_and c.from_residual.result c.from_residual.ensures.1 in
    let refused = c.in_err-number.ensures.err in
    rw (p.1, p.2) (refused.0, number_unread c.args.bytes.now c.loop-index.rest.now c.loop-index.output c.args.count c.loop-index.index c.loop-index.invariant (omega arith) refused.1)
