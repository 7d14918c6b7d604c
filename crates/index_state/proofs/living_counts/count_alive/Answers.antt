use Rattle.std.proofs.Common.{ap, arith, length, sum_by, ◌∙◌, ◌≤◌}
use Rattle.std.proofs.lemmas.List.{take_all}
use Rattle.common.specs.BitSets.{count_set}
use Rattle.index_state.proofs.living_counts.count_alive.Goals as goal

pub returns : goal.returns
returns c =
    let l = c.loop-set in
    let sets = c.args.alive.now in
    let past = c.loop-set-test.false in
    let all : length sets ≤ l.set-index = omega (arith, past) in
    l.invariant.0 ∙ ap (λ xs. sum_by count_set xs) (take_all l.set-index sets all)
