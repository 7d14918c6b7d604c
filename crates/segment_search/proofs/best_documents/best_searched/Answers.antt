use Rattle.std.proofs.Common.{ap, map, refl, subst, ◌∙◌}
use Rattle.query.proofs.AskedLaws.{weighed_tree}
use Rattle.query_trees.specs.Queries.{query_of}
use Rattle.scorer_answers.specs.Rows.{flags_in}
use Rattle.segment_reader.specs.Searchers.{statistics_of}
use Rattle.segment_search.specs.CountedWeights.{CountedScoresBy, counted_query}
use Rattle.weights.specs.Given.{given_similarity}
use Rattle.weights.specs.Unscored.{similarity_given}
use Rattle.segment_search.proofs.best_documents.best_searched.Goals as goal

pub best_of_each-requires : goal.best_of_each-requires
best_of_each-requires g c κs =
    let f = g.S.Statistics.similarity in
    let w = c.weigh_query-weight.result in
    let scores = subst (λ o. CountedScoresBy (given_similarity f) w (similarity_given f o)) c.enabled_from_searcher.ensures.statistics c.weigh_query-weight.ensures.scores in
    let accepted = weighed_tree (CountedScoresBy (given_similarity f) w) (f (statistics_of c.args.searcher.now)) (query_of c.args.query.now) (counted_query w) scores c.weigh_query-weight.ensures.query c.requires.accepted in
    ((refl, tt), (ap (map flags_in) c.segment_readers.ensures ∙ c.requires.flags, (c.requires.few, (accepted, c.weigh_query-weight.ensures.counts))))
