use Rattle.std.proofs.Common.{[], subst, sym, ◌≤◌}
use Rattle.docsets.specs.ScoredEntries.{greatest_score}
use Rattle.weight_calls.proofs.PlainWeights.{all_weighed}
use Rattle.weight_calls.proofs.boxed_scorers.all_documents.Goals as goal

pub scorer-requires-clause-accepted : goal.scorer-requires-clause-accepted
scorer-requires-clause-accepted c = all_weighed

pub returns : goal.returns
returns c =
    let scores = c.in_ok-all.ensures (record { weight = λ t. 0; norms = [] }) tt in
    subst (λ es. greatest_score es ≤ 1) (sym c.into_boxed_scorer.ensures) scores.bounded
