use Rattle.std.proofs.Common.{ap, arith, map, subst, sym, to_z, ◌*◌, ◌≡◌, ◌≤◌, ◌∙◌}
use Rattle.std.proofs.Math.Logic.{∥∥₁_elim}
use Rattle.std.proofs.Props.{props}
use Rattle.std.proofs.lemmas.Int.{to_z_pos}
use mir.Syntax.{w64}
use Rattle.definitions.specs.Answers.{answers}
use Rattle.definitions.specs.Query.{phrase}
use Rattle.definitions.specs.Scoring.{greatest_of, max_score, natural, weight_sum}
use Rattle.query_scorers.proofs.AcceptedParts.{fits}
use Rattle.leaf_weights.proofs.AcceptedTerms.{phrase_near}
use Rattle.leaf_weights.proofs.LeafScores.{norms_under, ok_none_same, ok_nothing_scores, ok_some_same, ok_some_scores, phrase_answers_same, small_if_boosted, small_under, weighs_same}
use Rattle.leaf_weights.specs.Weighed.{under}
use Rattle.leaf_weights.proofs.leaf_scorers.phrase_query_scorer.Goals as goal

pub weight_under-weight-requires : goal.weight_under-weight-requires
weight_under-weight-requires g c some =
    let sim = g.S.Statistics.similarity c.args.statistics.now in
    let most = fits sim.weight c.args.boost (phrase c.args.query.now.0 c.args.query.now.1) c.requires.accepted in
    subst (λ ts. weight_sum sim.weight ts ≤ max_score) (sym c.terms.ensures.value) (small_if_boosted sim c.args.boost c.args.query.now.0 most some)

pub new-phrase-requires-clause-near : goal.new-phrase-requires-clause-near
new-phrase-requires-clause-near g c =
    let sim = g.S.Statistics.similarity c.args.statistics.now in
    subst (λ ts. greatest_of (map (λ t. t.0) ts) ≤ 1073741824) (sym c.terms-2.ensures.value) (∥∥₁_elim c.requires.accepted (hlevel props) (λ a. phrase_near a.0 sim.weight c.args.boost c.args.query.now.0 c.args.query.now.1 a.1))

pub new-phrase-requires-clause-small : goal.new-phrase-requires-clause-small
new-phrase-requires-clause-small g c =
    let sim = g.S.Statistics.similarity c.args.statistics.now in
    let most = fits sim.weight c.args.boost (phrase c.args.query.now.0 c.args.query.now.1) c.requires.accepted in
    subst (λ n. n ≤ max_score) (sym (c.weight_under-weight.ensures ∙ ap (λ ts. weight_sum (under c.args.boost sim).weight ts) c.terms.ensures.value)) (small_under sim c.args.boost c.args.query.now.0 most)

pub phrase_scorer-requires-clause-fits : goal.phrase_scorer-requires-clause-fits
phrase_scorer-requires-clause-fits g c =
    let sim = g.S.Statistics.similarity c.args.statistics.now in
    let small = c.requires.small in
    let boost : natural (to_z w64 c.args.boost) ≡ c.args.boost = ap natural (to_z_pos w64 c.args.boost (omega (arith, small))) in
    let most = fits sim.weight c.args.boost (phrase c.args.query.now.0 c.args.query.now.1) c.requires.accepted in
    let weight = c.new-phrase.ensures.weight ∙ (c.weight_under-weight.ensures ∙ ap (λ ts. weight_sum (under c.args.boost sim).weight ts) c.terms.ensures.value) in
    subst (λ n. n ≤ max_score) (sym (ap (λ n. n * c.new-phrase.result.weight) boost ∙ (ap (λ w. c.args.boost * w) weight ∙ weighs_same sim c.args.boost c.args.query.now.0))) most

pub returns-clause-some : goal.returns-clause-some
returns-clause-some g c =
    let sim = g.S.Statistics.similarity c.args.statistics.now in
    let small = c.requires.small in
    let boost : natural (to_z w64 c.args.boost) ≡ c.args.boost = ap natural (to_z_pos w64 c.args.boost (omega (arith, small))) in
    let weight = c.weight_under-weight.ensures ∙ ap (λ ts. weight_sum (under c.args.boost sim).weight ts) c.terms.ensures.value in
    let scores = c.new-phrase.ensures.scores (under c.args.boost sim) (ap (λ ts. weight_sum (under c.args.boost sim).weight ts) c.terms-2.ensures.value ∙ sym weight) (norms_under sim c.args.boost ∙ sym c.norms-norms.ensures.value) in
    ok_some_scores _ sim c.args.boost (phrase c.args.query.now.0 c.args.query.now.1) c.args.reader.now c.phrase_scorer.result (natural (to_z w64 c.args.boost) * c.new-phrase.result.weight)
    (λ schema analyze docs stands passes. ok_some_same _ c.phrase_scorer.result _ _ (ap (λ n. answers schema analyze (under c.args.boost sim) n (phrase c.new-phrase.result.terms.now c.new-phrase.result.slop) docs) boost ∙ (ap (λ ts. answers schema analyze (under c.args.boost sim) c.args.boost (phrase ts c.new-phrase.result.slop) docs) (c.new-phrase.ensures.terms ∙ c.terms-2.ensures.value) ∙ (ap (λ s. answers schema analyze (under c.args.boost sim) c.args.boost (phrase c.args.query.now.0 s) docs) (c.new-phrase.ensures.slop ∙ c.slop.ensures) ∙ phrase_answers_same schema analyze sim c.args.boost c.args.query.now.0 c.args.query.now.1 docs))) (c.phrase_scorer.ensures.some schema analyze (under c.args.boost sim) docs stands scores))
    c.phrase_scorer.ensures.within c.phrase_scorer.ensures.bounded (ap (λ n. n * c.new-phrase.result.weight) boost ∙ (ap (λ w. c.args.boost * w) (c.new-phrase.ensures.weight ∙ weight) ∙ weighs_same sim c.args.boost c.args.query.now.0))

pub returns-clause-none : goal.returns-clause-none
returns-clause-none g c =
    let sim = g.S.Statistics.similarity c.args.statistics.now in
    let small = c.requires.small in
    let boost : natural (to_z w64 c.args.boost) ≡ c.args.boost = ap natural (to_z_pos w64 c.args.boost (omega (arith, small))) in
    ok_nothing_scores sim c.args.boost (phrase c.args.query.now.0 c.args.query.now.1) c.args.reader.now c.phrase_scorer.result
    (λ schema analyze docs stands. ok_none_same c.phrase_scorer.result _ _ (ap (λ n. answers schema analyze (under c.args.boost sim) n (phrase c.new-phrase.result.terms.now c.new-phrase.result.slop) docs) boost ∙ (ap (λ ts. answers schema analyze (under c.args.boost sim) c.args.boost (phrase ts c.new-phrase.result.slop) docs) (c.new-phrase.ensures.terms ∙ c.terms-2.ensures.value) ∙ (ap (λ s. answers schema analyze (under c.args.boost sim) c.args.boost (phrase c.args.query.now.0 s) docs) (c.new-phrase.ensures.slop ∙ c.slop.ensures) ∙ phrase_answers_same schema analyze sim c.args.boost c.args.query.now.0 c.args.query.now.1 docs))) (c.phrase_scorer.ensures.none schema analyze (under c.args.boost sim) docs stands))
