use Rattle.std.proofs.Common.{subst, sym}
use Rattle.definitions.proofs.Lists.{all_push as all_more}
use Rattle.segment.specs.Members.{AreOpened, IsMember}
use Rattle.segment_cases.proofs.merged_segments.members.Goals as goal

pub loop-member-preserved : goal.loop-member-preserved
loop-member-preserved c =
    let schema = c.args.schema.now in
    subst (AreOpened schema) (sym c.in_ok-push.ensures.items) (all_more (IsMember schema) c.loop-member.members.items _ c.loop-member.invariant c.in_ok-member_of.ensures)
