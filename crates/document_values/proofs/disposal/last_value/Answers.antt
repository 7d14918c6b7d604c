use Rattle.std.proofs.Common.{ap, arith, length, rules, ◌<◌, ◌∙◌}
use Rattle.document_values.proofs.OwnedNodes.{array_above, last_above}
use Rattle.document_values.specs.Owned.{owned_values}
use Rattle.document_values.specs.OwnedNodes.{values_above}
use Rattle.layouts.specs.DocumentReading.{to_values}
use Rattle.document_values.proofs.disposal.last_value.Goals as goal

pub returns : goal.returns
returns c =
    let some : 0 < length c.pop.new.self.items = search rules in
    let more = ap (λ vs. values_above (to_values (owned_values vs))) c.in-Some.ensures.items ∙ last_above _ _ some in
    omega (arith, more, array_above c.pop.new.self)
