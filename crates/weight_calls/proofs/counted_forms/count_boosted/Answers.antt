use Rattle.std.proofs.Common.{ap, of_z, rules, subst, sym, to_z, w64, ◌∙◌, ◌≡◌}
use Rattle.definitions.specs.Query.{boost, term}
use Rattle.definitions.specs.Settings.{similarity_of}
use Rattle.leaf_weights.specs.TermWeights.{ScoresBy, option_asked, term_of}
use Rattle.leaf_weights.specs.declared.term_weight.TermWeight.{TermWeight}
use Rattle.query.proofs.AskedLaws.{weighed_tree}
use Rattle.query_trees.specs.Queries.{query_of}
use Rattle.weight_calls.proofs.counted_forms.count_boosted.Goals as goal

pub count-requires : goal.count-requires
count-requires c κs =
    let f = similarity_of in
    let w = c.new-weight in
    let t = c.term_weight in
    let whole = λ (v : TermWeight). term (term_of v) (option_asked v) in
    let scores = subst (ScoresBy (f c.args.statistics.now)) (sym w.ensures.weight) t.ensures.scores in
    let as_is : to_z w64 (of_z w64 c.boost.result) ≡ c.boost.result = search rules in
    let factor = ap (λ z. boost z (whole w.result.weight)) (w.ensures.boost ∙ (as_is ∙ c.boost.ensures)) in
    let inner = ap whole w.ensures.weight ∙ (t.ensures.query ∙ (ap query_of (sym c.in-Term.is) ∙ c.query.ensures)) in
    (search rules, weighed_tree (λ s. ScoresBy s w.result.weight) (f c.args.statistics.now) (boost c.args.query.now.1 c.args.query.now.0) (boost w.result.boost (whole w.result.weight)) scores (factor ∙ ap (boost c.args.query.now.1) inner) c.requires)
