use Rattle.std.proofs.Common.{refl}
use Rattle.scorers.proofs.scorer_laws.term_scores_are_those_of_definitions.Goals as goal

pub returns : goal.returns
returns c = λ schema analyze sim doc t option b. refl
