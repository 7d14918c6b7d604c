use Rattle.std.proofs.Common.{None, ap, rules, subst, sym, ◌∙◌, ◌≡◌}
use Rattle.std.proofs.lemmas.Int.{to_z-of_z}
use Rattle.std.proofs.lemmas.Result.{on_ok_weaker}
use mir.Syntax.{w64}
use mir.Val.{SFits}
use Rattle.definitions.specs.Answers.{answers}
use Rattle.definitions.specs.Refusing.{tree_fault}
use Rattle.definitions.specs.Sinks as sinks
use Rattle.walks.specs.Feeding.{IsFedBelow}
use Rattle.weights.proofs.WeighedLaws.{weighed_within}
use Rattle.weights.specs.AnyForms.{AnyScoresBy, any_query}
use Rattle.weights.specs.Weighing.{IsWeighed}
use Rattle.weights.proofs.any_weight.AnyWeightWeight.for_each_pruning.Goals as goal

pub for_each_pruning-requires : goal.for_each_pruning-requires
for_each_pruning-requires g c κs =
    let fits : SFits w64 c.args.threshold = search rules in
    (search rules, (subst (λ w. IsWeighed (AnyScoresBy g.W.LeafWeights.similarity w) 1 (any_query w)) c.in-Boolean.is c.requires.accepted, (to_z-of_z w64 c.args.threshold fits ∙ c.requires.threshold, c.requires.room)))

pub returns-in-Boolean-clause-fed : goal.returns-in-Boolean-clause-fed
returns-in-Boolean-clause-fed g c schema analyze sim docs stands by passes =
    on_ok_weaker c.for_each_pruning.result (λ is. is ∙ ap (λ w. sinks.fed g.K.Sink.limit g.K.Sink.taken (g.K.Sink.state c.args.sink.now) (answers schema analyze sim 1 (any_query w) docs)) (sym c.in-Boolean.is))
    (c.for_each_pruning.ensures.fed schema analyze sim docs stands (subst (λ w. AnyScoresBy g.W.LeafWeights.similarity w sim) c.in-Boolean.is by) (subst (λ w. tree_fault schema sim.weight 1 (any_query w) ≡ None) c.in-Boolean.is passes))

pub for_each_pruning-requires-in-DisjunctionMax : goal.for_each_pruning-requires-in-DisjunctionMax
for_each_pruning-requires-in-DisjunctionMax g c κs =
    let fits : SFits w64 c.args.threshold = search rules in
    (search rules, (subst (λ w. IsWeighed (AnyScoresBy g.W.LeafWeights.similarity w) 1 (any_query w)) c.in-DisjunctionMax.is c.requires.accepted, (to_z-of_z w64 c.args.threshold fits ∙ c.requires.threshold, c.requires.room)))

pub returns-in-DisjunctionMax-clause-fed : goal.returns-in-DisjunctionMax-clause-fed
returns-in-DisjunctionMax-clause-fed g c schema analyze sim docs stands by passes =
    on_ok_weaker c.for_each_pruning-in-DisjunctionMax.result (λ is. is ∙ ap (λ w. sinks.fed g.K.Sink.limit g.K.Sink.taken (g.K.Sink.state c.args.sink.now) (answers schema analyze sim 1 (any_query w) docs)) (sym c.in-DisjunctionMax.is))
    (c.for_each_pruning-in-DisjunctionMax.ensures.fed schema analyze sim docs stands (subst (λ w. AnyScoresBy g.W.LeafWeights.similarity w sim) c.in-DisjunctionMax.is by) (subst (λ w. tree_fault schema sim.weight 1 (any_query w) ≡ None) c.in-DisjunctionMax.is passes))

pub feed_by_kind-requires-clause-within : goal.feed_by_kind-requires-clause-within
feed_by_kind-requires-clause-within g c = weighed_within (AnyScoresBy g.W.LeafWeights.similarity c.args.self.now) 1 (any_query c.args.self.now) c.args.reader.now _ c.max_doc.result c.max_doc.ensures.value c.requires.accepted c.in_ok-scorer.ensures

pub returns-clause-fed : goal.returns-clause-fed
returns-clause-fed g c schema analyze sim docs stands by passes = c.feed_by_kind.ensures.fed ∙ ap (sinks.fed g.K.Sink.limit g.K.Sink.taken (g.K.Sink.state c.args.sink.now)) ((c.in_ok-scorer.ensures sim by).answers_are schema analyze docs stands passes)

pub returns-clause-listed : goal.returns-clause-listed
returns-clause-listed g c = subst (λ n. IsFedBelow g.K.Sink.limit g.K.Sink.taken (g.K.Sink.state c.args.sink.now) n (g.K.Sink.state c.feed_by_kind.new.sink)) c.max_doc.ensures.value c.feed_by_kind.ensures.listed
