use Rattle.std.proofs.Common.{ap, ◌∙◌}
use Rattle.definitions.proofs.Lists.{IfOk-map as if_ok}
use Rattle.scorer_answers.proofs.Signs.{signed_entries}
use Rattle.scorer_answers.specs.Listed.{signed_pairs}
use Rattle.scorer_answers.proofs.scorer_walks.for_each.Goals as goal

-- src/walks.rt:27:1
pub returns-clause-pairs : goal.returns-clause-pairs
returns-clause-pairs g c schema analyze sim b q docs r stands passes scores =
    if_ok c.for_each_scorer.result _ _ (λ pairs is. is ∙ (signed_entries (g.S.DocSet.entries c.args.scorer.now) ∙ ap signed_pairs (scores.answers_are schema analyze docs stands passes))) c.for_each_scorer.ensures.pairs
