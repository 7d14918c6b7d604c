use Rattle.store.proofs.TakenGroups.{taking_more}
use Rattle.store.proofs.groups.take_extents.Goals as goal

pub loop-left-preserved : goal.loop-left-preserved
loop-left-preserved c = taking_more _ c.in_ok-reach.reach c.in_ok-reach.after.now c.loop-left.invariant c.loop-left-test.true c.in_ok-reach.ensures.ok c.in_ok-push.ensures.items
