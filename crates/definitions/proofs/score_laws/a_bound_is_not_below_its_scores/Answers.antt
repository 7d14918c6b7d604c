use Rattle.definitions.proofs.BlockBounds.{each_below_bound}
use Rattle.definitions.proofs.score_laws.a_bound_is_not_below_its_scores.Goals as goal

pub returns : goal.returns
returns c b weight norms ps dont_fall many ids = each_below_bound b weight norms ps dont_fall many ids
