use Rattle.std.proofs.Common.{subst, sym}
use Rattle.definitions.proofs.Lists.{replicate-dont_fall as same-norms}
use Rattle.definitions.specs.Scoring.{DontFall}
use Rattle.phrase_cases.proofs.phrase_rows.similarity.Goals as goal

pub new-requires-clause-rises : goal.new-requires-clause-rises
new-requires-clause-rises c = subst DontFall (sym c.requires) (same-norms 256 1)
