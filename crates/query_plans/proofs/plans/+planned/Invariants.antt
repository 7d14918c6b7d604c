use Rattle.std.proofs.Common.{take, ◌*◌, ◌+◌}
use Rattle.definitions.specs.Query.{clauses_depth, depth, queries_depth, should}
use Rattle.query_plans.specs.Plans.{ArePlans, EachPlan, asked_for}
use Rattle.query_trees.specs.Queries.{clauses_of, each_asks, queries_of, query_of}
use Rattle.query_plans.proofs.plans.+planned.Given as goal

-- a query is deeper than what is in it
abbrev pub decreases-planned : goal.decreases-planned
decreases-planned l = 4 * depth (query_of l.query.now)

abbrev pub decreases-planned_bool : goal.decreases-planned_bool
decreases-planned_bool l = 4 * clauses_depth (clauses_of l.clauses.now) + 3

abbrev pub decreases-planned_clauses : goal.decreases-planned_clauses
decreases-planned_clauses l = 4 * clauses_depth (clauses_of l.clauses.now) + 2

abbrev pub decreases-planned_max : goal.decreases-planned_max
decreases-planned_max l = 4 * queries_depth (queries_of l.disjuncts.now) + 3

abbrev pub decreases-planned_sum : goal.decreases-planned_sum
decreases-planned_sum l = 4 * queries_depth (queries_of l.disjuncts.now) + 2

abbrev pub decreases-planned_queries : goal.decreases-planned_queries
decreases-planned_queries l = 4 * queries_depth (queries_of l.queries.now) + 2

abbrev pub decreases-planned_boost : goal.decreases-planned_boost
decreases-planned_boost l = 4 * depth (query_of l.query.now) + 1

abbrev pub decreases-planned_const : goal.decreases-planned_const
decreases-planned_const l = 4 * depth (query_of l.query.now) + 1

-- a plan for each clause before
abbrev pub invariant-planned_clauses-loop-occur : goal.invariant-planned_clauses-loop-occur
invariant-planned_clauses-loop-occur l = ArePlans l.least l.boost (asked_for l.all (clauses_of (take l.occur-index l.clauses))) (clauses_of l.plans.items)

-- a plan for each query before
abbrev pub invariant-planned_queries-loop-query : goal.invariant-planned_queries-loop-query
invariant-planned_queries-loop-query l = EachPlan l.boost (queries_of (take l.query-index l.queries)) (queries_of l.plans.items)

-- a plan for each query before, of which one has to match
abbrev pub invariant-planned_sum-loop-query : goal.invariant-planned_sum-loop-query
invariant-planned_sum-loop-query l = ArePlans 1 l.boost (each_asks should (queries_of (take l.query-index l.disjuncts))) (clauses_of l.plans.items)
