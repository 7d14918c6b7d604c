use Rattle.std.proofs.Common.{ap, arith, rules, ◌<◌, ◌∙◌}
use Rattle.serde_json.specs.Data.{items_depth}
use Rattle.serde_json.specs.View.{items_view}
use Rattle.term_scorer.proofs.JsonDepths.{items_depth-last}
use Rattle.term_scorer.proofs.explanation.Explanation.+explained.Goals as goal

pub details_to_json-loop-detail-preserved : goal.details_to_json-loop-detail-preserved
details_to_json-loop-detail-preserved t c =
    let some : 0 < c.args.levels = search rules in
    let more = ap (λ vs. items_depth (items_view vs)) c.in_ok-push-2.ensures.items ∙ items_depth-last _ _ in
    omega (arith, more, some, c.in_ok-to_json_value.ensures, c.loop-detail.invariant)
