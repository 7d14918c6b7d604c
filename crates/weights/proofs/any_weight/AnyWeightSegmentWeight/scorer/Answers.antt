use Rattle.std.proofs.Common.{ap, of_z, pos, refl, rules, subst, sym, to_z, ◌≤ℤ◌, ◌≤◌}
use Rattle.std.proofs.lemmas.Int.{to_z-of_z}
use Rattle.std.proofs.lemmas.Result.{IfOk-weaker}
use mir.Syntax.{w64}
use mir.Val.{SFits}
use Rattle.definitions.specs.Query as definitions
use Rattle.definitions.specs.Scoring.{max_score, natural}
use Rattle.query_trees.specs.Queries.{clauses_of, queries_of, query_of}
use Rattle.query_scorers.proofs.FormScores.{empty_scores, moved}
use Rattle.weights.proofs.TreeLaws.{by_form, factor_is, weighed_accepted}
use Rattle.weights.specs.AnyForms.{AnyScoresBy, any_query}
use Rattle.weights.specs.Weighing.{IsWeighed}
use Rattle.weights.proofs.any_weight.AnyWeightSegmentWeight.scorer.Goals as goal

pub term_scorer-requires : goal.term_scorer-requires
term_scorer-requires g c κs =
    let f = g.W.LeafWeights.similarity in
    let b = natural c.args.boost in
    let fits : SFits w64 c.args.boost = search rules in
    let same = factor_is c.args.boost fits c.requires.positive in
    let q = definitions.term c.in-Term.query.now.0 c.in-Term.query.now.1 in
    ((refl, (refl, tt)), (subst (λ n. n ≤ max_score) (sym same) c.requires.small, weighed_accepted (f c.in-Term.weights) (f c.new-forms.result.weights.now) b _ q q (ap f c.new-forms.ensures.weights) same refl (subst (λ w. IsWeighed (AnyScoresBy f w) b (any_query w)) c.in-Term.is c.requires.accepted)))

pub phrase_scorer-requires : goal.phrase_scorer-requires
phrase_scorer-requires g c κs =
    let f = g.W.LeafWeights.similarity in
    let b = natural c.args.boost in
    let fits : SFits w64 c.args.boost = search rules in
    let same = factor_is c.args.boost fits c.requires.positive in
    let q = definitions.phrase c.in-Phrase.query.now.0 c.in-Phrase.query.now.1 in
    ((refl, (refl, tt)), (subst (λ n. n ≤ max_score) (sym same) c.requires.small, weighed_accepted (f c.in-Phrase.weights) (f c.new-forms-in-Phrase.result.weights.now) b _ q q (ap f c.new-forms-in-Phrase.ensures.weights) same refl (subst (λ w. IsWeighed (AnyScoresBy f w) b (any_query w)) c.in-Phrase.is c.requires.accepted)))

pub phrase_prefix_scorer-requires : goal.phrase_prefix_scorer-requires
phrase_prefix_scorer-requires g c κs =
    let f = g.W.LeafWeights.similarity in
    let b = natural c.args.boost in
    let fits : SFits w64 c.args.boost = search rules in
    let same = factor_is c.args.boost fits c.requires.positive in
    let q = definitions.phrase_prefix c.in-PhrasePrefix.query.now.0 c.in-PhrasePrefix.query.now.1 in
    ((refl, (refl, tt)), (subst (λ n. n ≤ max_score) (sym same) c.requires.small, weighed_accepted (f c.in-PhrasePrefix.weights) (f c.new-forms-in-PhrasePrefix.result.weights.now) b _ q q (ap f c.new-forms-in-PhrasePrefix.ensures.weights) same refl (subst (λ w. IsWeighed (AnyScoresBy f w) b (any_query w)) c.in-PhrasePrefix.is c.requires.accepted)))

pub scorer-requires : goal.scorer-requires
scorer-requires g c κs =
    let f = g.W.LeafWeights.similarity in
    let fits : SFits w64 c.args.boost = search rules in
    let same = to_z-of_z w64 c.args.boost fits in
    (search rules, (subst (λ z. pos 0 ≤ℤ z) (sym same) c.requires.positive, (subst (λ z. natural z ≤ max_score) (sym same) c.requires.small, subst (λ w. IsWeighed (AnyScoresBy f w) (natural (to_z w64 (of_z w64 c.args.boost))) (any_query w)) c.in-Boolean.is (subst (λ z. IsWeighed (AnyScoresBy f c.args.self.now) (natural z) (any_query c.args.self.now)) (sym same) c.requires.accepted))))

pub scorer-requires-in-DisjunctionMax : goal.scorer-requires-in-DisjunctionMax
scorer-requires-in-DisjunctionMax g c κs =
    let f = g.W.LeafWeights.similarity in
    let fits : SFits w64 c.args.boost = search rules in
    let same = to_z-of_z w64 c.args.boost fits in
    (search rules, (subst (λ z. pos 0 ≤ℤ z) (sym same) c.requires.positive, (subst (λ z. natural z ≤ max_score) (sym same) c.requires.small, subst (λ w. IsWeighed (AnyScoresBy f w) (natural (to_z w64 (of_z w64 c.args.boost))) (any_query w)) c.in-DisjunctionMax.is (subst (λ z. IsWeighed (AnyScoresBy f c.args.self.now) (natural z) (any_query c.args.self.now)) (sym same) c.requires.accepted))))

pub scorer-requires-in-Boost : goal.scorer-requires-in-Boost
scorer-requires-in-Boost g c κs =
    let f = g.W.LeafWeights.similarity in
    let fits : SFits w64 c.args.boost = search rules in
    let same = to_z-of_z w64 c.args.boost fits in
    (search rules, (subst (λ z. pos 0 ≤ℤ z) (sym same) c.requires.positive, (subst (λ z. natural z ≤ max_score) (sym same) c.requires.small, subst (λ w. IsWeighed (AnyScoresBy f w) (natural (to_z w64 (of_z w64 c.args.boost))) (any_query w)) c.in-Boost.is (subst (λ z. IsWeighed (AnyScoresBy f c.args.self.now) (natural z) (any_query c.args.self.now)) (sym same) c.requires.accepted))))

pub scorer-requires-in-ConstScore : goal.scorer-requires-in-ConstScore
scorer-requires-in-ConstScore g c κs =
    let f = g.W.LeafWeights.similarity in
    let fits : SFits w64 c.args.boost = search rules in
    let same = to_z-of_z w64 c.args.boost fits in
    (search rules, (subst (λ z. pos 0 ≤ℤ z) (sym same) c.requires.positive, (subst (λ z. natural z ≤ max_score) (sym same) c.requires.small, subst (λ w. IsWeighed (AnyScoresBy f w) (natural (to_z w64 (of_z w64 c.args.boost))) (any_query w)) c.in-ConstScore.is (subst (λ z. IsWeighed (AnyScoresBy f c.args.self.now) (natural z) (any_query c.args.self.now)) (sym same) c.requires.accepted))))

pub returns-in-All : goal.returns-in-All
returns-in-All g c sim by =
    let fits : SFits w64 c.args.boost = search rules in
    let boost = ap natural (to_z-of_z w64 c.args.boost fits) in
    by_form _ _ sim (natural c.args.boost) c.args.reader.now _ c.in-All.is (moved sim _ (natural c.args.boost) definitions.all c.args.reader.now _ _ c.of_all.ensures boost (c.all_scorer.ensures sim))

pub returns-in-Empty : goal.returns-in-Empty
returns-in-Empty g c sim by = by_form _ _ sim (natural c.args.boost) c.args.reader.now _ c.in-Empty.is (empty_scores sim (natural c.args.boost) c.args.reader.now _ c.of_none.ensures)

pub returns-in-Boolean : goal.returns-in-Boolean
returns-in-Boolean g c sim by =
    let fits : SFits w64 c.args.boost = search rules in
    let boost = ap natural (to_z-of_z w64 c.args.boost fits) in
    IfOk-weaker c.scorer.result _ _ (λ scorer scores. by_form _ _ sim (natural c.args.boost) c.args.reader.now _ c.in-Boolean.is (moved sim _ (natural c.args.boost) (definitions.boolean (clauses_of c.in-Boolean.weight.clauses.now) c.in-Boolean.weight.minimum_number_should_match) c.args.reader.now _ _ refl boost scores)) (c.scorer.ensures sim (subst (λ w. AnyScoresBy g.W.LeafWeights.similarity w sim) c.in-Boolean.is by))

pub returns-in-DisjunctionMax : goal.returns-in-DisjunctionMax
returns-in-DisjunctionMax g c sim by =
    let fits : SFits w64 c.args.boost = search rules in
    let boost = ap natural (to_z-of_z w64 c.args.boost fits) in
    IfOk-weaker c.scorer-in-DisjunctionMax.result _ _ (λ scorer scores. by_form _ _ sim (natural c.args.boost) c.args.reader.now _ c.in-DisjunctionMax.is (moved sim _ (natural c.args.boost) (definitions.disjunction_max (queries_of c.in-DisjunctionMax.weight.disjuncts.now) c.in-DisjunctionMax.weight.tie_breaker) c.args.reader.now _ _ refl boost scores)) (c.scorer-in-DisjunctionMax.ensures sim (subst (λ w. AnyScoresBy g.W.LeafWeights.similarity w sim) c.in-DisjunctionMax.is by))

pub returns-in-Boost : goal.returns-in-Boost
returns-in-Boost g c sim by =
    let fits : SFits w64 c.args.boost = search rules in
    let boost = ap natural (to_z-of_z w64 c.args.boost fits) in
    IfOk-weaker c.scorer-in-Boost.result _ _ (λ scorer scores. by_form _ _ sim (natural c.args.boost) c.args.reader.now _ c.in-Boost.is (moved sim _ (natural c.args.boost) (definitions.boost c.in-Boost.weight.boost (query_of c.in-Boost.weight.weight.query.now)) c.args.reader.now _ _ refl boost scores)) (c.scorer-in-Boost.ensures sim (subst (λ w. AnyScoresBy g.W.LeafWeights.similarity w sim) c.in-Boost.is by))

pub returns-in-ConstScore : goal.returns-in-ConstScore
returns-in-ConstScore g c sim by =
    let fits : SFits w64 c.args.boost = search rules in
    let boost = ap natural (to_z-of_z w64 c.args.boost fits) in
    IfOk-weaker c.scorer-in-ConstScore.result _ _ (λ scorer scores. by_form _ _ sim (natural c.args.boost) c.args.reader.now _ c.in-ConstScore.is (moved sim _ (natural c.args.boost) (definitions.const_score c.in-ConstScore.weight.score (query_of c.in-ConstScore.weight.query.now)) c.args.reader.now _ _ refl boost scores)) (c.scorer-in-ConstScore.ensures sim (subst (λ w. AnyScoresBy g.W.LeafWeights.similarity w sim) c.in-ConstScore.is by))
