use Rattle.std.proofs.Common.{ap, arith, length, rules, ◌<◌, ◌∙◌}
use Rattle.document_values.proofs.OwnedNodes.{last_member_above, object_above}
use Rattle.document_values.specs.Owned.{owned_members}
use Rattle.document_values.specs.OwnedNodes.{members_above}
use Rattle.layouts.specs.DocumentReading.{to_members}
use Rattle.document_values.proofs.disposal.last_member.Goals as goal

pub returns : goal.returns
returns c =
    let some : 0 < length c.pop.new.self.items = search rules in
    let more = ap (λ ms. members_above (to_members (owned_members ms))) c.in-Some.ensures.items ∙ last_member_above _ _ some in
    omega (arith, more, object_above c.pop.new.self)
