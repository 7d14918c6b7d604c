use Rattle.std.proofs.Common.{arith, get_or, length, ◌-◌, ◌<◌}
use Rattle.std.proofs.lemmas.Bool.Decides.{nat_tests}
use Rattle.phrases.proofs.NearestCosts.{positions-order}
use Rattle.phrases.proofs.position_marks.are_below.Goals as goal

pub returns-else-is_empty : goal.returns-else-is_empty
returns-else-is_empty c = λ e k l.
    (let ps = c.args.positions.now in
    let order = positions-order 0 k (length ps - 1) ps c.requires (omega (arith, l)) (omega (arith, l)) in
    let last : get_or ps (length ps - 1) 0 < c.args.limit = grind (arith, nat_tests, e) in
    omega (arith, order, last))
