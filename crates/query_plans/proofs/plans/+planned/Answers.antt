use Rattle.std.proofs.Common.{[], ap, arith, pos, rules, subst, sym, take, ◌*◌, ◌++◌, ◌∙◌, ◌∷◌}
use Rattle.std.proofs.lemmas.Int.{to_z-of_z}
use Rattle.std.proofs.lemmas.List.{take_all, take_more}
use Rattle.std.proofs.lemmas.Result.{IfOk-weaker}
use mir.Syntax.{w64}
use mir.Val.{SFits}
use Rattle.definitions.specs.Query as definitions
use Rattle.definitions.specs.Query.{clauses_depth, depth, queries_depth}
use Rattle.definitions.specs.Scoring.{natural}
use Rattle.query_plans.proofs.ClausePlans.{bool_plan, more_plans, no_plans}
use Rattle.query_plans.proofs.PlanLaws.{best_of_one, best_plan, boost_over, further, more_each, product_plan, under}
use Rattle.query_plans.specs.Plans.{ArePlans, EachPlan, IsPlan, asked_for, required}
use Rattle.query_trees.proofs.Clauses.{clause_depth, query_depth}
use Rattle.query_trees.specs.Queries.{clauses_of, each_asks, occur_of, queries_of, query_of}
use Rattle.query_plans.proofs.plans.+planned.Goals as goal
use Rattle.query_plans.proofs.plans.+planned.Goals.{planned_bool-else-all, planned_bool-then-all}
use Rattle.query_plans.proofs.RequiredClauses.{required_plan, same_asked}
use Rattle.query_plans.proofs.SummedQueries.{more_sums, sum_plan}

pub planned_bool-returns-in-Some : goal.planned_bool-returns-in-Some
planned_bool-returns-in-Some t c =
    IfOk-weaker c.planned.result _ _ (λ plan is. under c.args.boost (definitions.boolean (clauses_of c.args.clauses.now) c.args.minimum) _ (query_of plan) c.in-Some.ensures.same is) c.planned.ensures

pub planned_bool-returns : goal.planned_bool-returns
planned_bool-returns t c =
    let cs = clauses_of c.args.clauses.now in
    let ds = clauses_of c.in_ok-subqueries.subqueries.items in
    let planned = c.in_ok-subqueries.ensures in
    let whole : IsPlan c.args.boost (definitions.boolean cs c.args.minimum) (definitions.boolean ds c.if-all.least) = elim c.if-all.branch [
      | planned_bool-then-all w ↦ (
          let plans = subst (λ a. ArePlans c.if-all.least c.args.boost (asked_for a cs) ds) w.if-all.true planned in
          let whole = subst (λ n. IsPlan c.args.boost (definitions.boolean (required cs) n) (definitions.boolean ds c.if-all.least)) w.least-is (bool_plan c.if-all.least c.args.boost (required cs) ds plans) in
          under c.args.boost (definitions.boolean cs c.args.minimum) (definitions.boolean (required cs) 0) (definitions.boolean ds c.if-all.least) (required_plan c.args.minimum cs (c.are_all_asked-all.ensures w.if-all.true)) whole
          )
      | planned_bool-else-all w ↦ (
          let plans = subst (λ a. ArePlans c.if-all.least c.args.boost (asked_for a cs) ds) w.if-all.false planned in
          subst (λ n. IsPlan c.args.boost (definitions.boolean cs n) (definitions.boolean ds c.if-all.least)) w.least-is (bool_plan c.if-all.least c.args.boost cs ds (same_asked cs ds c.if-all.least c.args.boost plans))
          )
    ] in
    IfOk-weaker c.raised.result _ _ (λ plan is. further c.args.boost (definitions.boolean cs c.args.minimum) (definitions.boolean ds c.if-all.least) (query_of plan) whole is) c.raised.ensures

pub planned_boost-returns-in-Some : goal.planned_boost-returns-in-Some
planned_boost-returns-in-Some t c =
    let fits : SFits w64 c.args.factor = search rules in
    IfOk-weaker c.planned.result _ _ (λ plan is. product_plan c.args.boost c.in-Some.product c.args.factor (query_of c.args.query.now) (query_of plan) (c.in-Some.ensures.0 ∙ ap (λ z. c.args.boost * natural z) (to_z-of_z w64 c.args.factor fits)) is) c.planned.ensures

pub planned_boost-returns-in_ok-new-in-None : goal.planned_boost-returns-in_ok-new-in-None
planned_boost-returns-in_ok-new-in-None t c =
    let fits : SFits w64 c.args.factor = search rules in
    let q = query_of c.args.query.now in
    let p = query_of c.in_ok-inner-in-None.inner in
    let made = c.in_ok-new-in-None.ensures ∙ ap (λ z. (p, z)) (to_z-of_z w64 c.args.factor fits) in
    c.boosted.ensures (definitions.boost c.args.factor q) (subst (λ v. IsPlan 1 (definitions.boost c.args.factor q) (definitions.boost v.1 v.0)) (sym made) (boost_over c.args.factor q p c.in_ok-inner-in-None.ensures))

pub planned_clauses-loop-occur-init : goal.planned_clauses-loop-occur-init
planned_clauses-loop-occur-init t c = subst (λ xs. ArePlans c.args.least c.args.boost definitions.no_clauses (clauses_of xs)) (sym c.in_ok-plans.ensures.items) (no_plans c.args.least c.args.boost)

pub planned_clauses-loop-occur-preserved : goal.planned_clauses-loop-occur-preserved
planned_clauses-loop-occur-preserved t c =
    let clauses = c.args.clauses.now in
    let clause = c.loop-occur-item.result in
    let more = take_more clauses c.loop-occur.occur-index clause c.loop-occur-test.true ∙ ap (λ d. take c.loop-occur.occur-index clauses ++ d ∷ []) (sym c.loop-occur-item.is) in
    let plan = subst (λ n. IsPlan n (query_of clause.1) (query_of c.in_ok-plan.plan)) c.boost_below.ensures.boost c.in_ok-plan.ensures in
    more_plans c.args.least c.args.boost c.args.all (take c.loop-occur.occur-index clauses) _ (clauses_of c.loop-occur.plans.items) _ clause (occur_of c.asked_occur-occur.result) (query_of c.in_ok-plan.plan) more c.asked_occur-occur.ensures c.loop-occur.invariant plan c.in_ok-push_clause.ensures

pub planned_clauses-returns : goal.planned_clauses-returns
planned_clauses-returns t c =
    let clauses = c.args.clauses.now in
    let whole = take_all c.loop-occur.occur-index clauses (omega (arith, c.loop-occur-test.false)) in
    subst (λ cs. ArePlans c.args.least c.args.boost (asked_for c.args.all (clauses_of cs)) (clauses_of c.loop-occur.plans.items)) whole c.loop-occur.invariant

pub planned_max-returns-in-Some : goal.planned_max-returns-in-Some
planned_max-returns-in-Some t c =
    IfOk-weaker c.planned.result _ _ (λ plan is. subst (λ qs. IsPlan c.args.boost (definitions.disjunction_max qs c.args.tie_breaker) (query_of plan)) (sym c.in-Some.ensures) (best_of_one c.args.boost c.args.tie_breaker _ (query_of plan) is)) c.planned.ensures

pub planned_max-returns : goal.planned_max-returns
planned_max-returns t c =
    let fits : SFits w64 c.args.tie_breaker = search rules in
    subst (λ v. IsPlan c.args.boost (definitions.disjunction_max (queries_of c.args.disjuncts.now) c.args.tie_breaker) (definitions.disjunction_max v.0 v.1)) (sym c.with_tie_breaker.ensures)
    (subst (λ z. IsPlan c.args.boost (definitions.disjunction_max (queries_of c.args.disjuncts.now) c.args.tie_breaker) (definitions.disjunction_max (queries_of c.in_ok-queries.queries.items) z)) (sym (to_z-of_z w64 c.args.tie_breaker fits))
    (best_plan c.args.boost c.args.tie_breaker (queries_of c.args.disjuncts.now) (queries_of c.in_ok-queries.queries.items) c.in_ok-queries.ensures))

pub planned_sum-loop-query-init : goal.planned_sum-loop-query-init
planned_sum-loop-query-init t c = subst (λ xs. ArePlans 1 c.args.boost definitions.no_clauses (clauses_of xs)) (sym c.in_ok-plans.ensures.items) (no_plans 1 c.args.boost)

pub planned_sum-loop-query-preserved : goal.planned_sum-loop-query-preserved
planned_sum-loop-query-preserved t c =
    let queries = c.args.disjuncts.now in
    let more = take_more queries c.loop-query.query-index c.query-item.result c.loop-query-test.true ∙ ap (λ d. take c.loop-query.query-index queries ++ d ∷ []) (sym c.query-item.is) in
    more_sums c.args.boost (take c.loop-query.query-index queries) _ (clauses_of c.loop-query.plans.items) _ c.query-item.result (query_of c.in_ok-plan.plan) more c.loop-query.invariant c.in_ok-plan.ensures c.in_ok-push_clause.ensures

pub planned_sum-returns : goal.planned_sum-returns
planned_sum-returns t c =
    let queries = c.args.disjuncts.now in
    let all = take_all c.loop-query.query-index queries (omega (arith, c.loop-query-test.false)) in
    let plans = subst (λ qs. ArePlans 1 c.args.boost (each_asks definitions.should (queries_of qs)) (clauses_of c.loop-query.plans.items)) all c.loop-query.invariant in
    subst (λ v. IsPlan c.args.boost (definitions.disjunction_max (queries_of queries) (pos 1000)) (definitions.boolean v.0 v.1)) (sym c.with_minimum_required_clauses.ensures)
    (under c.args.boost (definitions.disjunction_max (queries_of queries) (pos 1000)) (definitions.boolean (each_asks definitions.should (queries_of queries)) 1) (definitions.boolean (clauses_of c.loop-query.plans.items) 1) (sum_plan (queries_of queries))
    (bool_plan 1 c.args.boost _ _ plans))

pub planned_sum-planned-requires : goal.planned_sum-planned-requires
planned_sum-planned-requires t c =
    let deep = query_depth c.args.disjuncts.now c.loop-query.query-index c.query-item.result c.loop-query-test.true c.query-item.is in
    (omega (arith, c.decreases, deep), c.requires)

pub planned_queries-loop-query-init : goal.planned_queries-loop-query-init
planned_queries-loop-query-init t c = subst (λ xs. EachPlan c.args.boost definitions.no_queries (queries_of xs)) (sym c.in_ok-plans.ensures.items) tt

pub planned_queries-loop-query-preserved : goal.planned_queries-loop-query-preserved
planned_queries-loop-query-preserved t c =
    let queries = c.args.queries.now in
    let more = take_more queries c.loop-query.query-index c.query-item.result c.loop-query-test.true ∙ ap (λ d. take c.loop-query.query-index queries ++ d ∷ []) (sym c.query-item.is) in
    more_each c.args.boost (take c.loop-query.query-index queries) _ c.loop-query.plans.items _ c.query-item.result c.in_ok-planned.field-0 more c.in_ok-push.ensures.items c.loop-query.invariant c.in_ok-planned.ensures

pub planned_queries-returns : goal.planned_queries-returns
planned_queries-returns t c =
    let queries = c.args.queries.now in
    let all = take_all c.loop-query.query-index queries (omega (arith, c.loop-query-test.false)) in
    subst (λ qs. EachPlan c.args.boost (queries_of qs) (queries_of c.loop-query.plans.items)) all c.loop-query.invariant

pub planned_clauses-planned-requires : goal.planned_clauses-planned-requires
planned_clauses-planned-requires t c =
    let deep = clause_depth c.args.clauses.now c.loop-occur.occur-index c.loop-occur-item.result c.loop-occur-test.true c.loop-occur-item.is in
    (omega (arith, c.decreases, deep), c.boost_below.ensures.small)

pub planned_queries-planned-requires : goal.planned_queries-planned-requires
planned_queries-planned-requires t c =
    let deep = query_depth c.args.queries.now c.loop-query.query-index c.query-item.result c.loop-query-test.true c.query-item.is in
    (omega (arith, c.decreases, deep), c.requires)
