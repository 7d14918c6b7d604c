use Rattle.definitions.proofs.Runs.{runs_last, runs_next, runs_skip}
use Rattle.definitions.proofs.word_laws.runs_are_longest.Goals as goal

pub returns-clause-followed : goal.returns-clause-followed
returns-clause-followed c run b s some words other = runs_next run b s some words other

pub returns-clause-last : goal.returns-clause-last
returns-clause-last c run some words = runs_last run some words

pub returns-clause-skipped : goal.returns-clause-skipped
returns-clause-skipped c b s other = runs_skip b s other
