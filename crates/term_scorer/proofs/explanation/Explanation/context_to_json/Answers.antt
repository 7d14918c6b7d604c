use Rattle.std.proofs.Common.{ap, arith, rules, ◌≡◌, ◌∙◌}
use Rattle.serde_json.specs.Data.{depth, items_depth}
use Rattle.serde_json.specs.View.{items_view, view}
use Rattle.serde_json.specs.declared.value.Value.{the_lemmas}
use Rattle.serde_json.specs.declared.value.Value.TheVariants as value
use Rattle.term_scorer.proofs.JsonDepths.{items_depth-last}
use Rattle.term_scorer.proofs.explanation.Explanation.context_to_json.Goals as goal

pub loop-text-preserved : goal.loop-text-preserved
loop-text-preserved c =
    let flat : depth (view (value.String c.in_ok-clone.field-0)) ≡ 0 = search (rules, the_lemmas) in
    let more = ap (λ vs. items_depth (items_view vs)) c.in_ok-push.ensures.items ∙ items_depth-last _ _ in
    omega (arith, more, flat, c.loop-text.invariant)
