use Rattle.std.proofs.Common.{◌≤◌}
use Rattle.definitions.specs.Scoring.{max_score}
use Rattle.scorer_cases.proofs.combined_scores.score_of.Given as goal

-- the sum taken isn't below the combiner's
abbrev pub invariant-loop-score : goal.invariant-loop-score
invariant-loop-score g l = (g.C.ScoreCombiner.total l.combiner ≤ l.taken) × (l.taken ≤ max_score)
