use Rattle.std.proofs.Common.{◌*◌, ◌≤◌}
use Rattle.serde_json.specs.Data.{items_depth}
use Rattle.serde_json.specs.View.{items_view}
use Rattle.term_scorer.proofs.explanation.Explanation.+explained.Given as goal

abbrev pub invariant-details_to_json-loop-detail : goal.invariant-details_to_json-loop-detail
invariant-details_to_json-loop-detail l = items_depth (items_view l.details.items) ≤ 2 * l.levels
