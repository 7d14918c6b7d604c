use Rattle.std.proofs.Common.{subst, sym, ◌≤◌}
use Rattle.docsets.specs.ScoredEntries.{greatest_score}
use Rattle.query_scorers.proofs.ConstantScores.{greatest_constant as greatest_given}
use Rattle.weight_calls.proofs.block_walks.giving_two.Goals as goal

pub returns : goal.returns
returns c = subst (λ es. greatest_score es ≤ 2) (sym c.new.ensures) (greatest_given 2 _)
