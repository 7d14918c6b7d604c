use Rattle.std.proofs.Common.{arith, sym, ◌∙◌}
use Rattle.store.proofs.Lowest.{adjoins_end}
use Rattle.store.proofs.skip_index.are_checkpoints.Goals as goal

pub returns : goal.returns
returns c = sym (adjoins_end c.loop-reach.doc c.loop-reach.byte c.loop-reach.reach-index c.args.checkpoints.now c.loop-reach.invariant.fits (omega arith)) ∙ c.loop-reach.invariant.rest
