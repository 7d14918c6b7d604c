use Rattle.std.proofs.Common.{[], ap, arith, map, pos, refl, rules, subst, sym, take, ◌*◌, ◌+◌, ◌++◌, ◌≤◌, ◌≤ℤ◌, ◌∙◌, ◌∷◌}
use Rattle.std.proofs.lemmas.Int.{to_z-of_z}
use Rattle.std.proofs.lemmas.List.{take_more}
use Rattle.std.proofs.lemmas.Result.{IfOk-weaker}
use mir.Syntax.{w64}
use mir.Val.{SFits, of_z, to_z}
use Rattle.definitions.specs.Query as definitions
use Rattle.definitions.specs.Query.{clauses_depth, depth, queries_depth}
use Rattle.definitions.specs.Scoring.{max_score, natural}
use Rattle.query_scorers.specs.Asked.{asked}
use Rattle.query_scorers.specs.Scores.{AllScore, Scores}
use Rattle.query_trees.proofs.Clauses.{clause_depth, query_depth}
use Rattle.query_trees.specs.Queries.{clauses_of, occur_of, queries_of, query_of}
use Rattle.query_scorers.proofs.AcceptedParts.{boost_accepted, boost_positive, boost_within, clause_accepted, clauses_accepted, clauses_fit, constant_positive, constant_query_accepted, constant_within, queries_accepted, queries_fit, query_accepted, tie_positive, tie_small}
use Rattle.query_scorers.proofs.ScoredParts.{asked_skip, asked_then, boosted_scores, each_then}
use Rattle.query_scorers.specs.Accepted.{IsAccepted}
use Rattle.query_scorers.proofs.trees.+scorer_of.Goals as goal
use Rattle.query_scorers.proofs.trees.+scorer_of.Goals.{scorers_asked-else-is_same, scorers_asked-then-is_same+in_ok-scorer_of+in_ok-push}

pub boolean_scorer-scorers_asked-requires : goal.boolean_scorer-scorers_asked-requires
boolean_scorer-scorers_asked-requires g t c κs within =
    let weight = (g.F.SegmentScorers.similarity c.args.forms.now).weight in
    (omega (arith, c.decreases), (within.0, (within.1, (c.requires.small, clauses_accepted weight c.args.boost _ _ c.requires.accepted))))

pub boolean_scorer-scorers_asked-requires-2 : goal.boolean_scorer-scorers_asked-requires-2
boolean_scorer-scorers_asked-requires-2 g t c κs within =
    let weight = (g.F.SegmentScorers.similarity c.args.forms.now).weight in
    (omega (arith, c.decreases), (within.0, (within.1, (c.requires.small, clauses_accepted weight c.args.boost _ _ c.requires.accepted))))

pub boolean_scorer-scorers_asked-requires-3 : goal.boolean_scorer-scorers_asked-requires-3
boolean_scorer-scorers_asked-requires-3 g t c κs within =
    let weight = (g.F.SegmentScorers.similarity c.args.forms.now).weight in
    (omega (arith, c.decreases), (within.0, (within.1, (c.requires.small, clauses_accepted weight c.args.boost _ _ c.requires.accepted))))

pub boolean_scorer-clauses_scorer-requires : goal.boolean_scorer-clauses_scorer-requires
boolean_scorer-clauses_scorer-requires g t c =
    let sim = g.F.SegmentScorers.similarity c.args.forms.now in
    let r = g.F.SegmentScorers.segment c.args.forms.now in
    record { fits = clauses_fit sim c.args.boost r (clauses_of c.args.clauses.now) c.args.minimum_number_should_match _ _ c.requires.accepted c.in_ok-musts.ensures c.in_ok-shoulds.ensures }

pub boosted_scorer-product-requires-clause-positive : goal.boosted_scorer-product-requires-clause-positive
boosted_scorer-product-requires-clause-positive g t c =
    let weight = (g.F.SegmentScorers.similarity c.args.forms.now).weight in
    let fits : SFits w64 c.args.factor = search rules in
    subst (λ z. pos 0 ≤ℤ z) (sym (to_z-of_z w64 c.args.factor fits)) (boost_positive weight c.args.boost _ _ c.requires.accepted)

pub boosted_scorer-product-requires-clause-fits : goal.boosted_scorer-product-requires-clause-fits
boosted_scorer-product-requires-clause-fits g t c =
    let weight = (g.F.SegmentScorers.similarity c.args.forms.now).weight in
    let fits : SFits w64 c.args.factor = search rules in
    subst (λ z. c.args.boost * natural z ≤ max_score) (sym (to_z-of_z w64 c.args.factor fits)) (boost_within weight c.args.boost _ _ c.requires.accepted)

pub boosted_scorer-scorer_of-requires : goal.boosted_scorer-scorer_of-requires
boosted_scorer-scorer_of-requires g t c κs within =
    let weight = (g.F.SegmentScorers.similarity c.args.forms.now).weight in
    let fits : SFits w64 c.args.factor = search rules in
    let product = c.product.ensures ∙ ap (λ z. c.args.boost * natural z) (to_z-of_z w64 c.args.factor fits) in
    let small = boost_within weight c.args.boost _ _ c.requires.accepted in
    let below : c.product.result ≤ max_score = subst (λ n. n ≤ max_score) (sym product) small in
    let accepted : IsAccepted weight c.product.result (query_of c.args.query.now) = subst (λ n. IsAccepted weight n (query_of c.args.query.now)) (sym product) (boost_accepted weight c.args.boost _ _ c.requires.accepted) in
    (omega (arith, c.decreases), (within.0, (within.1, (below, accepted))))

pub boosted_scorer-returns : goal.boosted_scorer-returns
boosted_scorer-returns g t c =
    let sim = g.F.SegmentScorers.similarity c.args.forms.now in
    let r = g.F.SegmentScorers.segment c.args.forms.now in
    let q = query_of c.args.query.now in
    let fits : SFits w64 c.args.factor = search rules in
    let product = c.product.ensures ∙ ap (λ z. c.args.boost * natural z) (to_z-of_z w64 c.args.factor fits) in
    IfOk-weaker c.scorer_of.result _ _ (λ scorer scores. boosted_scores sim c.args.boost c.product.result c.args.factor q q r (g.F.Scorer.DocSet.entries scorer) product refl scores) c.scorer_of.ensures

pub constant_scorer-scorer_of-requires : goal.constant_scorer-scorer_of-requires
constant_scorer-scorer_of-requires g t c κs within =
    let weight = (g.F.SegmentScorers.similarity c.args.forms.now).weight in
    (omega (arith, c.decreases), (within.0, (within.1, (c.requires.small, constant_query_accepted weight c.args.boost _ _ c.requires.accepted))))

pub constant_scorer-product-requires-clause-positive : goal.constant_scorer-product-requires-clause-positive
constant_scorer-product-requires-clause-positive g t c =
    let weight = (g.F.SegmentScorers.similarity c.args.forms.now).weight in
    let fits : SFits w64 c.args.constant = search rules in
    subst (λ z. pos 0 ≤ℤ z) (sym (to_z-of_z w64 c.args.constant fits)) (constant_positive weight c.args.boost _ _ c.requires.accepted)

pub constant_scorer-product-requires-clause-fits : goal.constant_scorer-product-requires-clause-fits
constant_scorer-product-requires-clause-fits g t c =
    let weight = (g.F.SegmentScorers.similarity c.args.forms.now).weight in
    let fits : SFits w64 c.args.constant = search rules in
    subst (λ z. c.args.boost * natural z ≤ max_score) (sym (to_z-of_z w64 c.args.constant fits)) (constant_within weight c.args.boost _ _ c.requires.accepted)

pub constant_scorer-constant_scorer-requires : goal.constant_scorer-constant_scorer-requires
constant_scorer-constant_scorer-requires g t c =
    let weight = (g.F.SegmentScorers.similarity c.args.forms.now).weight in
    let fits : SFits w64 c.args.constant = search rules in
    let product = c.product.ensures ∙ ap (λ z. c.args.boost * natural z) (to_z-of_z w64 c.args.constant fits) in
    subst (λ n. n ≤ max_score) (sym product) (constant_within weight c.args.boost _ _ c.requires.accepted)

pub max_scorer-scorers_of-requires : goal.max_scorer-scorers_of-requires
max_scorer-scorers_of-requires g t c κs within =
    let weight = (g.F.SegmentScorers.similarity c.args.forms.now).weight in
    (omega (arith, c.decreases), (within.0, (within.1, (c.requires.small, queries_accepted weight c.args.boost _ _ c.requires.accepted))))

pub max_scorer-best_scorer-requires-clause-positive : goal.max_scorer-best_scorer-requires-clause-positive
max_scorer-best_scorer-requires-clause-positive g t c =
    let weight = (g.F.SegmentScorers.similarity c.args.forms.now).weight in
    let fits : SFits w64 c.args.tie_breaker = search rules in
    subst (λ z. pos 0 ≤ℤ z) (sym (to_z-of_z w64 c.args.tie_breaker fits)) (tie_positive weight c.args.boost _ _ c.requires.accepted)

pub max_scorer-best_scorer-requires-clause-share : goal.max_scorer-best_scorer-requires-clause-share
max_scorer-best_scorer-requires-clause-share g t c =
    let weight = (g.F.SegmentScorers.similarity c.args.forms.now).weight in
    let fits : SFits w64 c.args.tie_breaker = search rules in
    subst (λ z. z ≤ℤ pos 1000) (sym (to_z-of_z w64 c.args.tie_breaker fits)) (tie_small weight c.args.boost _ _ c.requires.accepted)

pub max_scorer-best_scorer-requires-clause-fits : goal.max_scorer-best_scorer-requires-clause-fits
max_scorer-best_scorer-requires-clause-fits g t c =
    let sim = g.F.SegmentScorers.similarity c.args.forms.now in
    queries_fit sim c.args.boost (g.F.SegmentScorers.segment c.args.forms.now) (queries_of c.args.disjuncts.now) _ _ c.requires.accepted c.in_ok-scorers.ensures

pub scorer_of-term_scorer-requires-clause-accepted : goal.scorer_of-term_scorer-requires-clause-accepted
scorer_of-term_scorer-requires-clause-accepted g t c =
    let weight = (g.F.SegmentScorers.similarity c.args.forms.now).weight in
    subst (λ q. IsAccepted weight c.args.boost (query_of q)) c.in-Term.is c.requires.accepted

pub scorer_of-phrase_scorer-requires-clause-accepted : goal.scorer_of-phrase_scorer-requires-clause-accepted
scorer_of-phrase_scorer-requires-clause-accepted g t c =
    let weight = (g.F.SegmentScorers.similarity c.args.forms.now).weight in
    subst (λ q. IsAccepted weight c.args.boost (query_of q)) c.in-Phrase.is c.requires.accepted

pub scorer_of-phrase_prefix_scorer-requires-clause-accepted : goal.scorer_of-phrase_prefix_scorer-requires-clause-accepted
scorer_of-phrase_prefix_scorer-requires-clause-accepted g t c =
    let weight = (g.F.SegmentScorers.similarity c.args.forms.now).weight in
    subst (λ q. IsAccepted weight c.args.boost (query_of q)) c.in-PhrasePrefix.is c.requires.accepted

pub scorer_of-boolean_scorer-requires : goal.scorer_of-boolean_scorer-requires
scorer_of-boolean_scorer-requires g t c κs within =
    let weight = (g.F.SegmentScorers.similarity c.args.forms.now).weight in
    let is = ap query_of c.in-Boolean.is in
    let deep = ap depth is in
    let inner = ap clauses_depth c.clauses.ensures in
    let same = ap (λ cs. definitions.boolean cs c.get_minimum_number_should_match-minimum.result) c.clauses.ensures ∙ ap (definitions.boolean c.in-Boolean.query.0) c.get_minimum_number_should_match-minimum.ensures in
    (omega (arith, c.decreases, deep, inner), (within.0, (within.1, (c.requires.small, subst (IsAccepted weight c.args.boost) (is ∙ sym same) c.requires.accepted))))

pub scorer_of-max_scorer-requires : goal.scorer_of-max_scorer-requires
scorer_of-max_scorer-requires g t c κs within =
    let weight = (g.F.SegmentScorers.similarity c.args.forms.now).weight in
    let is = ap query_of c.in-DisjunctionMax.is in
    let deep = ap depth is in
    let inner = ap queries_depth c.disjuncts.ensures in
    let fits : SFits w64 c.tie_breaker.result = search rules in
    let same = ap (λ qs. definitions.disjunction_max qs (to_z w64 (of_z w64 c.tie_breaker.result))) c.disjuncts.ensures ∙ ap (definitions.disjunction_max c.in-DisjunctionMax.query.0) (to_z-of_z w64 c.tie_breaker.result fits ∙ c.tie_breaker.ensures) in
    (omega (arith, c.decreases, deep, inner), (within.0, (within.1, (c.requires.small, subst (IsAccepted weight c.args.boost) (is ∙ sym same) c.requires.accepted))))

pub scorer_of-boosted_scorer-requires : goal.scorer_of-boosted_scorer-requires
scorer_of-boosted_scorer-requires g t c κs within =
    let weight = (g.F.SegmentScorers.similarity c.args.forms.now).weight in
    let is = ap query_of c.in-Boost.is in
    let deep = ap depth is in
    let inner = ap depth c.query.ensures in
    let fits : SFits w64 c.boost.result = search rules in
    let same = ap (λ q. definitions.boost (to_z w64 (of_z w64 c.boost.result)) q) c.query.ensures ∙ ap (λ z. definitions.boost z c.in-Boost.query.0) (to_z-of_z w64 c.boost.result fits ∙ c.boost.ensures) in
    (omega (arith, c.decreases, deep, inner), (within.0, (within.1, (c.requires.small, subst (IsAccepted weight c.args.boost) (is ∙ sym same) c.requires.accepted))))

pub scorer_of-constant_scorer-requires : goal.scorer_of-constant_scorer-requires
scorer_of-constant_scorer-requires g t c κs within =
    let weight = (g.F.SegmentScorers.similarity c.args.forms.now).weight in
    let is = ap query_of c.in-ConstScore.is in
    let deep = ap depth is in
    let inner = ap depth c.query-in-ConstScore.ensures in
    let fits : SFits w64 c.score.result = search rules in
    let same = ap (λ q. definitions.const_score (to_z w64 (of_z w64 c.score.result)) q) c.query-in-ConstScore.ensures ∙ ap (λ z. definitions.const_score z c.in-ConstScore.query.0) (to_z-of_z w64 c.score.result fits ∙ c.score.ensures) in
    (omega (arith, c.decreases, deep, inner), (within.0, (within.1, (c.requires.small, subst (IsAccepted weight c.args.boost) (is ∙ sym same) c.requires.accepted))))

pub scorer_of-returns-in-Empty : goal.scorer_of-returns-in-Empty
scorer_of-returns-in-Empty g t c =
    let sim = g.F.SegmentScorers.similarity c.args.forms.now in
    let r = g.F.SegmentScorers.segment c.args.forms.now in
    subst (λ q. Scores sim c.args.boost (query_of q) r (g.F.Scorer.DocSet.entries c.empty_scorer.result)) (sym c.in-Empty.is) (c.empty_scorer.ensures c.args.boost)

pub scorers_asked-scorer_of-requires : goal.scorers_asked-scorer_of-requires
scorers_asked-scorer_of-requires g t c κs within =
    let weight = (g.F.SegmentScorers.similarity c.args.forms.now).weight in
    let deep = clause_depth c.args.clauses.now c.loop-asks.asks-index c.loop-asks-item.result c.loop-asks-test.true c.loop-asks-item.is in
    (omega (arith, c.decreases, deep), (within.0, (within.1, (c.requires.small, clause_accepted weight c.args.boost c.args.clauses.now c.loop-asks.asks-index c.loop-asks-item.result c.loop-asks-test.true c.loop-asks-item.is c.requires.accepted))))

pub scorers_asked-loop-asks-preserved : goal.scorers_asked-loop-asks-preserved
scorers_asked-loop-asks-preserved g t c =
    let sim = g.F.SegmentScorers.similarity c.args.forms.now in
    let r = g.F.SegmentScorers.segment c.args.forms.now in
    let clauses = c.args.clauses.now in
    let more = take_more clauses c.loop-asks.asks-index c.loop-asks-item.result c.loop-asks-test.true ∙ ap (λ d. take c.loop-asks.asks-index clauses ++ d ∷ []) (sym c.loop-asks-item.is) in
    elim c.if-is_same.branch [
      | scorers_asked-then-is_same+in_ok-scorer_of+in_ok-push w ↦ subst (λ v. AllScore sim c.args.boost r (asked (occur_of c.args.occur) (clauses_of (take (c.loop-asks.asks-index + 1) clauses))) (map g.F.Scorer.DocSet.entries v.items)) (sym w.scorers-is) (asked_then g.F.Scorer.DocSet.entries sim c.args.boost r (occur_of c.args.occur) (take c.loop-asks.asks-index clauses) _ c.loop-asks-item.result c.loop-asks.scorers.items _ w.in_ok-scorer_of.field-0 more (sym c.is_same.ensures ∙ w.if-is_same.true) w.in_ok-push.ensures.items c.loop-asks.invariant w.in_ok-scorer_of.ensures)
      | scorers_asked-else-is_same w ↦ subst (λ v. AllScore sim c.args.boost r (asked (occur_of c.args.occur) (clauses_of (take (c.loop-asks.asks-index + 1) clauses))) (map g.F.Scorer.DocSet.entries v.items)) (sym w.scorers-is) (asked_skip g.F.Scorer.DocSet.entries sim c.args.boost r (occur_of c.args.occur) (take c.loop-asks.asks-index clauses) _ c.loop-asks-item.result _ more (sym c.is_same.ensures ∙ w.if-is_same.false) c.loop-asks.invariant)
    ]

pub scorers_of-scorer_of-requires : goal.scorers_of-scorer_of-requires
scorers_of-scorer_of-requires g t c κs within =
    let weight = (g.F.SegmentScorers.similarity c.args.forms.now).weight in
    let deep = query_depth c.args.queries.now c.loop-query.query-index c.query-item.result c.loop-query-test.true c.query-item.is in
    (omega (arith, c.decreases, deep), (within.0, (within.1, (c.requires.small, query_accepted weight c.args.boost c.args.queries.now c.loop-query.query-index c.query-item.result c.loop-query-test.true c.query-item.is c.requires.accepted))))

pub scorers_of-loop-query-preserved : goal.scorers_of-loop-query-preserved
scorers_of-loop-query-preserved g t c =
    let queries = c.args.queries.now in
    let more = take_more queries c.loop-query.query-index c.query-item.result c.loop-query-test.true ∙ ap (λ d. take c.loop-query.query-index queries ++ d ∷ []) (sym c.query-item.is) in
    each_then g.F.Scorer.DocSet.entries (g.F.SegmentScorers.similarity c.args.forms.now) c.args.boost (g.F.SegmentScorers.segment c.args.forms.now) (take c.loop-query.query-index queries) _ c.query-item.result c.loop-query.scorers.items _ c.in_ok-scorer_of.field-0 more c.in_ok-push.ensures.items c.loop-query.invariant c.in_ok-scorer_of.ensures
