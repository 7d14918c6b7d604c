use Rattle.std.proofs.Common.{sym, ◌∙◌}
use Rattle.store.proofs.Lowest.{last_step}
use Rattle.store.proofs.skip_index.take_last.Goals as goal

pub loop-left-preserved : goal.loop-left-preserved
loop-left-preserved c = sym (last_step c.loop-left.left c.loop-left.last c.in_ok-number.number c.loop-left.rest.now c.in_ok-number.after.now c.loop-left-test.true c.in_ok-number.ensures.ok) ∙ c.loop-left.invariant
