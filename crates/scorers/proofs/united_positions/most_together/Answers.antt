use Rattle.std.proofs.Common.{[], ap, arith, drop, map, min, sym, ◌+◌, ◌∙◌, ◌∷◌, ◌≤◌}
use Rattle.std.proofs.lemmas.List.{drop_more, get_or-map, length-map}
use Rattle.scorers.specs.Uniting.{most_sum}
use Rattle.scorers.proofs.united_positions.most_together.Goals as goal

pub loop-i-preserved : goal.loop-i-preserved
loop-i-preserved g c =
    let entries = g.P.DocSet.entries in
    let items = c.args.docsets.now.items in
    let all = map entries items in
    let long = length-map items entries in
    let here = get_or-map entries items c.loop-i.i c.index.result.now [] (omega arith) ∙ ap entries (sym c.index.ensures) in
    let parts = ap most_sum (drop_more all c.loop-i.i [] (omega (arith, long)) ∙ ap (λ es. es ∷ drop (c.loop-i.i + 1) all) here) in
    let so_far = c.loop-i.invariant in
    let bound = c.most_positions.ensures in
    let sum = c.saturating_add-most.ensures in
    let goal : min (most_sum all) 18446744073709551615 ≤ c.saturating_add-most.result + most_sum (drop (c.loop-i.i + 1) all) = omega (arith, parts, so_far, bound, sum) in
    goal
