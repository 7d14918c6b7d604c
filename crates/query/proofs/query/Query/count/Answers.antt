use Rattle.std.proofs.Common.{ap, refl, subst, sym, ◌∙◌, ◌<◌, ◌^◌, length}
use Rattle.std.proofs.lemmas.Result.{IfOk-weaker}
use Rattle.definitions.specs.Alive.{live}
use Rattle.definitions.specs.Scanning.{scan_count}
use Rattle.query.proofs.AskedLaws.{unscored_same, weighed_unscored}
use Rattle.scorer_answers.specs.Rows.{HasRows}
use Rattle.std.specs.List.{AllZip}
use Rattle.weights.specs.AnyForms.{AnyScoresBy, any_query}
use Rattle.weights.specs.Given.{given_similarity}
use Rattle.weights.specs.Unscored.{no_scores, similarity_given}
use Rattle.query.proofs.query.Query.count.Goals as goal

pub count_each-requires : goal.count_each-requires
count_each-requires g c κs =
    let w = c.weight-weight.result in
    let f = g.S.Statistics.similarity in
    let scores = subst (λ o. AnyScoresBy (given_similarity f) w (similarity_given f o)) c.disabled_from_searcher.ensures.statistics c.weight-weight.ensures.scores in
    ((refl, tt), (subst (λ rs. length rs < 2 ^ 32) (sym c.segment_readers.ensures) c.requires.few, weighed_unscored (AnyScoresBy (given_similarity f) w) (g.Self.QueryTree.tree c.args.self.now) (any_query w) scores c.weight-weight.ensures.query c.requires.accepted))

pub returns : goal.returns
returns g c schema analyze segments weight zip passes =
    let w = c.weight-weight.result in
    let f = g.S.Statistics.similarity in
    let tree = g.Self.QueryTree.tree c.args.self.now in
    let scores = subst (λ o. AnyScoresBy (given_similarity f) w (similarity_given f o)) c.disabled_from_searcher.ensures.statistics c.weight-weight.ensures.scores in
    IfOk-weaker c.count_each.result _ _ (λ n told. told ∙ ap (scan_count schema analyze (live segments)) c.weight-weight.ensures.query)
    (c.count_each.ensures schema analyze no_scores segments (subst (AllZip (HasRows schema analyze) segments) (sym c.segment_readers.ensures) zip) scores (unscored_same schema weight tree (any_query w) c.weight-weight.ensures.query passes))
