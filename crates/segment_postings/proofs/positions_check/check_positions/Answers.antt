use Rattle.std.proofs.Common.{arith, length, rules, ◌<◌, ◌^◌}
use Rattle.std.proofs.lemmas.Result.{err_from_is_err_and}
use Rattle.common.proofs.DigitNumbers.{AreDigits}
use Rattle.segment_postings.proofs.FewNumbers.{few_numbers, total_known}
use Rattle.segment_postings.specs.Placed.{HasFew}
use Rattle.segment_postings.proofs.positions_check.check_positions.Goals as goal

pub returns-then-are_few-clause-ok : goal.returns-then-are_few-clause-ok
returns-then-are_few-clause-ok c = λ docs counts known.
    (let short : length c.args.postings.now < 2 ^ 64 = omega arith in
    let digits : AreDigits 256 c.args.postings.now = λ i. omega (arith, c.type_inv.postings i) in
    let total = total_known c.args.postings.now c.args.doc_freq c.args.total docs counts short digits c.requires known in
    let few : HasFew c.args.total c.args.positions.now = search rules in
    few_numbers counts c.args.total c.args.positions.now total few)

pub returns-in_err-check_many-clause-err : goal.returns-in_err-check_many-clause-err
returns-in_err-check_many-clause-err c =
    let p = err_from_is_err_and c.from_residual.result c.from_residual.ensures.1 in
    let refused = c.in_err-check_many.ensures.err in
    rw (p.1, p.2) (refused.0, refused.1)

pub returns-clause-ok : goal.returns-clause-ok
returns-clause-ok c = c.in_ok-check_many.ensures.ok
