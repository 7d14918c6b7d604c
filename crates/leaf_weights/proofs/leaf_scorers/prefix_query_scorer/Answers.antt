use Rattle.std.proofs.Common.{[], ap, arith, length, map, subst, sym, to_z, ◌*◌, ◌-◌, ◌≡◌, ◌≤◌, ◌∙◌}
use Rattle.std.proofs.Math.Logic.{∥∥₁_elim}
use Rattle.std.proofs.Props.{props}
use Rattle.std.proofs.lemmas.Int.{to_z_pos}
use mir.Syntax.{w64}
use Rattle.definitions.specs.Answers.{answers}
use Rattle.definitions.specs.Query.{Terms, phrase_prefix}
use Rattle.definitions.specs.Scoring.{greatest_of, max_score, natural, weight_sum}
use Rattle.query_scorers.proofs.AcceptedParts.{fits}
use Rattle.definitions.specs.Phrases.{whole_terms}
use Rattle.leaf_weights.specs.PhrasePrefixWeights.{most_in}
use Rattle.leaf_weights.specs.PlacedAnswers.{whole_weight}
use Rattle.leaf_weights.specs.Suffixes.{IsSearched}
use Rattle.std.specs.List.{slice_index_or}
use Rattle.leaf_weights.proofs.AcceptedTerms.{prefix_limit, prefix_near, prefix_searched, prefix_several}
use Rattle.leaf_weights.proofs.LeafScores.{norms_under, ok_none_same, ok_nothing_scores, ok_some_same, ok_some_scores, ok_with, prefix_answers_same, whole_same, whole_small, whole_under}
use Rattle.leaf_weights.specs.Weighed.{under}
use Rattle.leaf_weights.proofs.leaf_scorers.prefix_query_scorer.Goals as goal

pub weight_under-weight-requires : goal.weight_under-weight-requires
weight_under-weight-requires g c some =
    let sim = g.S.Statistics.similarity c.args.statistics.now in
    let most = fits sim.weight c.args.boost (phrase_prefix c.args.query.now.0 c.args.query.now.1) c.requires.accepted in
    subst (λ ts. weight_sum sim.weight ts ≤ max_score) (sym c.whole_terms.ensures) (whole_small sim c.args.boost (whole_terms c.args.query.now.0) c.norms-norms.ensures.similarity.weights most some)

pub new-phrase-requires-clause-several : goal.new-phrase-requires-clause-several
new-phrase-requires-clause-several g c =
    let sim = g.S.Statistics.similarity c.args.statistics.now in
    subst (λ ts. 2 ≤ length ts) (sym c.terms.ensures.value) (∥∥₁_elim c.requires.accepted (hlevel props) (λ a. prefix_several a.0 sim.weight c.args.boost c.args.query.now.0 c.args.query.now.1 a.1))

pub new-phrase-requires-clause-near : goal.new-phrase-requires-clause-near
new-phrase-requires-clause-near g c =
    let sim = g.S.Statistics.similarity c.args.statistics.now in
    subst (λ ts. greatest_of (map (λ t. t.0) ts) ≤ 1073741824) (sym c.terms.ensures.value) (∥∥₁_elim c.requires.accepted (hlevel props) (λ a. prefix_near a.0 sim.weight c.args.boost c.args.query.now.0 c.args.query.now.1 a.1))

pub new-phrase-requires-clause-small : goal.new-phrase-requires-clause-small
new-phrase-requires-clause-small g c =
    let sim = g.S.Statistics.similarity c.args.statistics.now in
    let most = fits sim.weight c.args.boost (phrase_prefix c.args.query.now.0 c.args.query.now.1) c.requires.accepted in
    let weight = c.weight_under-weight.ensures ∙ ap (λ ts. weight_sum (under c.args.boost sim).weight ts) c.whole_terms.ensures in
    subst (λ n. n ≤ max_score) (sym weight) (whole_under sim c.args.boost (whole_terms c.args.query.now.0) c.norms-norms.ensures.similarity.weights most)

pub phrase_prefix_scorer-requires-clause-fits : goal.phrase_prefix_scorer-requires-clause-fits
phrase_prefix_scorer-requires-clause-fits g c =
    let sim = g.S.Statistics.similarity c.args.statistics.now in
    let small = c.requires.small in
    let boost : natural (to_z w64 c.args.boost) ≡ c.args.boost = ap natural (to_z_pos w64 c.args.boost (omega (arith, small))) in
    let most = fits sim.weight c.args.boost (phrase_prefix c.args.query.now.0 c.args.query.now.1) c.requires.accepted in
    let weight = c.weight_under-weight.ensures ∙ ap (λ ts. weight_sum (under c.args.boost sim).weight ts) c.whole_terms.ensures in
    let most_is = c.new-phrase.ensures.most ∙ (ap (λ ts. whole_weight (whole_terms ts) c.weight_under-weight.result) c.terms.ensures.value ∙ ap (whole_weight (whole_terms c.args.query.now.0)) weight) in
    subst (λ n. n ≤ max_score) (sym (ap (λ n. n * most_in c.new-phrase.result) boost ∙ (ap (λ w. c.args.boost * w) most_is ∙ whole_same sim c.args.boost (whole_terms c.args.query.now.0)))) most

pub returns-clause-some : goal.returns-clause-some
returns-clause-some g c =
    let sim = g.S.Statistics.similarity c.args.statistics.now in
    let small = c.requires.small in
    let boost : natural (to_z w64 c.args.boost) ≡ c.args.boost = ap natural (to_z_pos w64 c.args.boost (omega (arith, small))) in
    let weight = c.weight_under-weight.ensures ∙ ap (λ ts. weight_sum (under c.args.boost sim).weight ts) c.whole_terms.ensures in
    let most_is = c.new-phrase.ensures.most ∙ (ap (λ ts. whole_weight (whole_terms ts) c.weight_under-weight.result) c.terms.ensures.value ∙ ap (whole_weight (whole_terms c.args.query.now.0)) weight) in
    let scores = c.new-phrase.ensures.scores (under c.args.boost sim) (ap (λ ts. weight_sum (under c.args.boost sim).weight (whole_terms ts)) c.terms.ensures.value ∙ sym weight) (norms_under sim c.args.boost ∙ sym c.norms-norms.ensures.value) in
    let terms = c.new-phrase.ensures.terms ∙ c.terms.ensures.value in
    let limit = c.new-phrase.ensures.limit ∙ c.max_expansions.ensures in
    let few = c.max_expansions.type_inv in
    let same = c.new-phrase.ensures.limit in
    ok_some_scores _ sim c.args.boost (phrase_prefix c.args.query.now.0 c.args.query.now.1) c.args.reader.now c.phrase_prefix_scorer.result (natural (to_z w64 c.args.boost) * most_in c.new-phrase.result)
    (λ schema analyze docs stands passes. ok_some_same _ c.phrase_prefix_scorer.result _ _ (ap (λ n. answers schema analyze (under c.args.boost sim) n (phrase_prefix c.new-phrase.result.terms.now c.new-phrase.result.max_expansions) docs) boost ∙ (ap (λ ts. answers schema analyze (under c.args.boost sim) c.args.boost (phrase_prefix ts c.new-phrase.result.max_expansions) docs) (c.new-phrase.ensures.terms ∙ c.terms.ensures.value) ∙ (ap (λ s. answers schema analyze (under c.args.boost sim) c.args.boost (phrase_prefix c.args.query.now.0 s) docs) (c.new-phrase.ensures.limit ∙ c.max_expansions.ensures) ∙ prefix_answers_same schema analyze sim c.args.boost c.args.query.now.0 c.args.query.now.1 docs)))
    (ok_with _ c.phrase_prefix_scorer.result (c.phrase_prefix_scorer.ensures.all (let most = prefix_limit schema sim.weight c.args.boost c.args.query.now.0 c.args.query.now.1 passes in omega (arith, most, limit, few, same))) (λ all. c.phrase_prefix_scorer.ensures.some schema analyze (under c.args.boost sim) docs stands scores (subst (λ (ts : Terms). IsSearched schema (slice_index_or ts (length ts - 1) (0, [])).1) (sym terms) (prefix_searched schema sim.weight c.args.boost c.args.query.now.0 c.args.query.now.1 passes)) all)))
    c.phrase_prefix_scorer.ensures.within c.phrase_prefix_scorer.ensures.bounded (ap (λ n. n * most_in c.new-phrase.result) boost ∙ (ap (λ w. c.args.boost * w) most_is ∙ whole_same sim c.args.boost (whole_terms c.args.query.now.0)))

pub returns-clause-none : goal.returns-clause-none
returns-clause-none g c =
    let sim = g.S.Statistics.similarity c.args.statistics.now in
    let small = c.requires.small in
    let boost : natural (to_z w64 c.args.boost) ≡ c.args.boost = ap natural (to_z_pos w64 c.args.boost (omega (arith, small))) in
    ok_nothing_scores sim c.args.boost (phrase_prefix c.args.query.now.0 c.args.query.now.1) c.args.reader.now c.phrase_prefix_scorer.result
    (λ schema analyze docs stands. ok_none_same c.phrase_prefix_scorer.result _ _ (ap (λ n. answers schema analyze (under c.args.boost sim) n (phrase_prefix c.new-phrase.result.terms.now c.new-phrase.result.max_expansions) docs) boost ∙ (ap (λ ts. answers schema analyze (under c.args.boost sim) c.args.boost (phrase_prefix ts c.new-phrase.result.max_expansions) docs) (c.new-phrase.ensures.terms ∙ c.terms.ensures.value) ∙ (ap (λ s. answers schema analyze (under c.args.boost sim) c.args.boost (phrase_prefix c.args.query.now.0 s) docs) (c.new-phrase.ensures.limit ∙ c.max_expansions.ensures) ∙ prefix_answers_same schema analyze sim c.args.boost c.args.query.now.0 c.args.query.now.1 docs))) (c.phrase_prefix_scorer.ensures.none schema analyze (under c.args.boost sim) docs stands))
