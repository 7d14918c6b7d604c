use Rattle.std.proofs.Common.{arith, length, ◌<◌, ◌^◌}
use Rattle.std.proofs.lemmas.Result.{err_from_is_err_and}
use Rattle.codes.proofs.PositionsOpened.{held_last, no_blocks, no_rest, no_widths, one_list, opened}
use Rattle.codes.proofs.position_reader.PositionReader.open.Goals as goal

pub returns-in_err-widths-clause-err : goal.returns-in_err-widths-clause-err
returns-in_err-widths-clause-err c =
    let p = err_from_is_err_and c.from_residual.result c.from_residual.ensures.1 in
    let refused = c.in_err-widths.ensures.err in
    let few : length c.args.bytes.now < 2 ^ 64 = omega arith in
    rw (p.1, p.2) (refused.0, λ numbers. no_widths c.args.bytes.now numbers few refused.1)

pub returns-in_err-at-clause-err : goal.returns-in_err-at-clause-err
returns-in_err-at-clause-err c =
    let p = err_from_is_err_and c.from_residual-in_err-at.result c.from_residual-in_err-at.ensures.1 in
    let refused = c.in_err-at.ensures.err in
    rw (p.1, p.2) (refused.0, no_blocks c.args.bytes.now _ _ (let few : length c.args.bytes.now < 2 ^ 64 = omega arith in few) c.in_ok-widths.ensures.ok refused.1)

pub returns-in_err-checked_rest-clause-err : goal.returns-in_err-checked_rest-clause-err
returns-in_err-checked_rest-clause-err c =
    let p = err_from_is_err_and c.from_residual-in_err-checked_rest.result c.from_residual-in_err-checked_rest.ensures.1 in
    let refused = c.in_err-checked_rest.ensures.err in
    rw (p.1, p.2) (refused.0, no_rest c.args.bytes.now _ _ c.in_ok-at.at (let few : length c.args.bytes.now < 2 ^ 64 = omega arith in few) c.in_ok-widths.ensures.ok c.in_ok-at.ensures.ok refused.1)

pub invariant_of-result : goal.invariant_of-result
invariant_of-result c = held_last c.in_ok-widths.widths.now c.in_ok-widths.packed.now _ c.in_ok-at.at c.in_ok-at.ensures.ok c.in_ok-checked_rest.ensures.ok

pub returns-clause-ok : goal.returns-clause-ok
returns-clause-ok c = opened c.args.bytes.now c.in_ok-widths.widths.now c.in_ok-widths.packed.now _ c.in_ok-at.at (λ i. omega (arith, c.type_inv.bytes i)) c.in_ok-widths.ensures.ok c.in_ok-at.ensures.ok c.in_ok-checked_rest.ensures.ok

pub returns-clause-one : goal.returns-clause-one
returns-clause-one c = λ numbers positions. one_list numbers _ c.args.bytes.now (let few : length c.args.bytes.now < 2 ^ 64 = omega arith in few) positions (opened c.args.bytes.now c.in_ok-widths.widths.now c.in_ok-widths.packed.now _ c.in_ok-at.at (λ i. omega (arith, c.type_inv.bytes i)) c.in_ok-widths.ensures.ok c.in_ok-at.ensures.ok c.in_ok-checked_rest.ensures.ok)
