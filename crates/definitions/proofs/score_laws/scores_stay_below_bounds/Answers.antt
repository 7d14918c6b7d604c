use Rattle.definitions.proofs.Bounds.{accepted_fits, accepted_tree, score_below}
use Rattle.definitions.proofs.score_laws.scores_stay_below_bounds.Goals as goal

pub returns-clause-below : goal.returns-clause-below
returns-clause-below c schema analyze sim doc q h = score_below schema analyze sim doc 1 q (accepted_tree schema sim.weight q h)

pub returns-clause-fits : goal.returns-clause-fits
returns-clause-fits c schema sim q h = accepted_fits schema sim.weight 1 q (accepted_tree schema sim.weight q h)
