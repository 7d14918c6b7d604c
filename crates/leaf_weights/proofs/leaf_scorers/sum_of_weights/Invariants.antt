use Rattle.std.proofs.Common.{drop, ◌+◌, ◌≡◌}
use Rattle.definitions.specs.Scoring.{weight_sum}
use Rattle.leaf_weights.proofs.leaf_scorers.sum_of_weights.Given as goal

-- the sum so far and what is left make the whole
abbrev pub invariant-loop-offset : goal.invariant-loop-offset
invariant-loop-offset g l =
    let weight = (g.S.Statistics.similarity l.statistics).weight in
    l.sum + weight_sum weight (drop l._offset-index l.terms) ≡ weight_sum weight l.terms
