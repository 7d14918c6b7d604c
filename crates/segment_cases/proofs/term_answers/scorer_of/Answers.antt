use Rattle.std.proofs.Common.{subst, sym}
use Rattle.definitions.proofs.Lists.{replicate-dont_fall as same-norms}
use Rattle.definitions.specs.Scoring.{DontFall}
use Rattle.segment_cases.proofs.term_answers.scorer_of.Goals as goal

-- src/term_answers.rt:64:5
pub new-requires-clause-rises : goal.new-requires-clause-rises
new-requires-clause-rises c = subst DontFall (sym c.requires) (same-norms 256 1)
