use Rattle.docsets.proofs.ScoredEntryLaws.{pairs-boosted, pairs-rescored, pairs-scored}
use Rattle.docsets.proofs.leaf_laws.scores_are_those_of_definitions.Goals as goal

pub returns : goal.returns
returns c = record { lists = pairs-scored; boosts = pairs-boosted; constants = pairs-rescored }
