use Rattle.std.proofs.Common.{ap, option_map, pos, refl, subst, sym, ◌∙◌}
use Rattle.std.proofs.lemmas.Result.{IfErr-weaker, IfOk-weaker}
use Rattle.definitions.proofs.Lists.{some_same}
use Rattle.definitions.specs.declared.fault.Fault.TheVariants as faults
use Rattle.query.proofs.AskedLaws.{same_passes, score_same, weighed_tree}
use Rattle.segment_reader.specs.Searchers.{statistics_of}
use Rattle.segment_reader.specs.SegmentReaders.{StandsFor}
use Rattle.weights.specs.AnyForms.{AnyScoresBy, any_query}
use Rattle.weights.specs.Given.{given_similarity}
use Rattle.weights.specs.Unscored.{similarity_given}
use Rattle.query.proofs.query.Query.explain.Goals as goal

pub explained-requires : goal.explained-requires
explained-requires g c κs =
    let w = c.weight-weight.result in
    let f = g.S.Statistics.similarity in
    let scores = subst (λ o. AnyScoresBy (given_similarity f) w (similarity_given f o)) c.enabled_from_searcher.ensures.statistics c.weight-weight.ensures.scores in
    ((refl, tt), weighed_tree (AnyScoresBy (given_similarity f) w) (f (statistics_of c.args.searcher.now)) (g.Self.QueryTree.tree c.args.self.now) (any_query w) scores c.weight-weight.ensures.query c.requires.accepted)

pub returns-clause-ok : goal.returns-clause-ok
returns-clause-ok g c schema analyze docs reader is stands passes =
    let w = c.weight-weight.result in
    let f = g.S.Statistics.similarity in
    let sim = f (statistics_of c.args.searcher.now) in
    let tree = g.Self.QueryTree.tree c.args.self.now in
    let scores = subst (λ o. AnyScoresBy (given_similarity f) w (similarity_given f o)) c.enabled_from_searcher.ensures.statistics c.weight-weight.ensures.scores in
    let same = some_same reader c.segment_reader-reader.result.now (sym is ∙ c.segment_reader-reader.ensures) in
    IfOk-weaker c.explained.result _ _ (λ e told. ap (option_map pos) (sym (score_same schema analyze sim tree (any_query w) docs c.args.address.doc_id c.weight-weight.ensures.query)) ∙ told)
    (c.explained.ensures.ok schema analyze sim docs (subst (StandsFor schema analyze docs) same stands) scores (same_passes schema sim.weight tree (any_query w) c.weight-weight.ensures.query passes))

pub returns-clause-err : goal.returns-clause-err
returns-clause-err g c schema analyze docs reader is stands passes =
    let w = c.weight-weight.result in
    let f = g.S.Statistics.similarity in
    let sim = f (statistics_of c.args.searcher.now) in
    let tree = g.Self.QueryTree.tree c.args.self.now in
    let scores = subst (λ o. AnyScoresBy (given_similarity f) w (similarity_given f o)) c.enabled_from_searcher.ensures.statistics c.weight-weight.ensures.scores in
    let same = some_same reader c.segment_reader-reader.result.now (sym is ∙ c.segment_reader-reader.ensures) in
    IfErr-weaker c.explained.result _ _ (λ e told other. sym (score_same schema analyze sim tree (any_query w) docs c.args.address.doc_id c.weight-weight.ensures.query) ∙ told other)
    (c.explained.ensures.err schema analyze sim docs (subst (StandsFor schema analyze docs) same stands) scores (same_passes schema sim.weight tree (any_query w) c.weight-weight.ensures.query passes))
