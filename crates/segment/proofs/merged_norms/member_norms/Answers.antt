use Rattle.std.proofs.Common.{ap, map, sym, ◌∙◌}
use Rattle.segment.proofs.Counts.{mapped_twice}
use Rattle.definitions.proofs.Lists.{take_whole}
use Rattle.segment.specs.Members.{member_of, with_lengths}
use Rattle.segment.proofs.merged_norms.member_norms.Goals as goal

pub returns : goal.returns
returns c =
    let ms = c.args.members.now in
    c.loop-member.invariant ∙ ap (map (λ m. with_lengths (member_of m))) (take_whole c.loop-member.member-index ms c.loop-member-test.false) ∙ sym (mapped_twice member_of with_lengths ms)
