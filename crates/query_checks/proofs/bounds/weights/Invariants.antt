use Rattle.std.proofs.Common.{drop, ◌+◌, ◌≡◌, ◌≤◌}
use Rattle.definitions.specs.Scoring.{max_score, weight_sum}
use Rattle.query_checks.proofs.bounds.weights.Given as goal

-- the sum so far and what is left make the whole
abbrev pub invariant-loop-offset : goal.invariant-loop-offset
invariant-loop-offset g l =
    let weight = (g.S.Statistics.similarity l.statistics).weight in
    record {
      whole : l.sum + weight_sum weight (drop l._offset-index l.terms) ≡ weight_sum weight l.terms;
      within : l.sum ≤ max_score;
    }
