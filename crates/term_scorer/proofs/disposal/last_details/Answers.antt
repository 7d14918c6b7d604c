use Rattle.std.proofs.Common.{ap, arith, length, rules, ◌<◌, ◌∙◌}
use Rattle.term_scorer.proofs.ExplanationNodes.{nodes_above-last}
use Rattle.term_scorer.specs.ExplanationNodes.{nodes_above}
use Rattle.term_scorer.proofs.disposal.last_details.Goals as goal

pub returns : goal.returns
returns c =
    let some : 0 < length c.pop.new.self.items = search rules in
    let more = ap nodes_above c.in-Some.ensures.items ∙ nodes_above-last _ _ some in
    let held = ap (λ p. p.0) c.into_details-details.ensures in
    omega (arith, more, held)
