use Rattle.std.proofs.Common.{◌≡◌}
use Rattle.serde_json.specs.Data.{items_depth}
use Rattle.serde_json.specs.View.{items_view}
use Rattle.term_scorer.proofs.explanation.Explanation.context_to_json.Given as goal

abbrev pub invariant-loop-text : goal.invariant-loop-text
invariant-loop-text l = items_depth (items_view l.texts.items) ≡ 0
