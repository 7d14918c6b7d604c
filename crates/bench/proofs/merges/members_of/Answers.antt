use Rattle.std.proofs.Common.{subst, sym}
use Rattle.definitions.proofs.Lists.{all_push as all_more}
use Rattle.segment.specs.Members.{AreOpened, IsMember}
use Rattle.bench.proofs.merges.members_of.Goals as goal

pub loop-part-preserved : goal.loop-part-preserved
loop-part-preserved c =
    let schema = c.args.schema.now in
    subst (AreOpened schema) (sym c.in_ok-push.ensures.items) (all_more (IsMember schema) c.loop-part.members.items _ c.loop-part.invariant c.in_ok-member_of.ensures)
