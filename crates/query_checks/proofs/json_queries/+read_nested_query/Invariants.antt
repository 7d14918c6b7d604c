use Rattle.std.proofs.Common.{drop, option_map, ◌*◌, ◌+◌, ◌≡◌}
use Rattle.definitions.specs.QueryGrammar.{items_in}
use Rattle.query_checks.proofs.QuerySteps.{before}
use Rattle.serde_json.specs.Data.{depth, items_depth}
use Rattle.serde_json.specs.View.{items_view, view}
use Rattle.query_checks.proofs.json_queries.+read_nested_query.Given as goal

-- a value is deeper than what stands at its keys, and a query is read by way of its form
abbrev pub decreases-read_nested_query : goal.decreases-read_nested_query
decreases-read_nested_query l = 7 * depth (view l.json.now) + 6

abbrev pub decreases-read_form : goal.decreases-read_form
decreases-read_form l = 7 * depth (view l.json.now) + 5

abbrev pub decreases-read_boolean_query : goal.decreases-read_boolean_query
decreases-read_boolean_query l = 7 * depth (view l.json.now) + 4

abbrev pub decreases-read_disjunction_max_query : goal.decreases-read_disjunction_max_query
decreases-read_disjunction_max_query l = 7 * depth (view l.json.now) + 4

abbrev pub decreases-read_boost_query : goal.decreases-read_boost_query
decreases-read_boost_query l = 7 * depth (view l.json.now) + 4

abbrev pub decreases-read_const_score_query : goal.decreases-read_const_score_query
decreases-read_const_score_query l = 7 * depth (view l.json.now) + 4

abbrev pub decreases-read_clauses : goal.decreases-read_clauses
decreases-read_clauses l = 7 * depth (view l.json.now) + 3

abbrev pub decreases-read_query_at : goal.decreases-read_query_at
decreases-read_query_at l = 7 * depth (view l.json.now) + 2

abbrev pub decreases-read_queries_at : goal.decreases-read_queries_at
decreases-read_queries_at l = 7 * depth (view l.json.now) + 2

abbrev pub decreases-read_queries : goal.decreases-read_queries
decreases-read_queries l = 7 * depth (view l.json.now) + 1

abbrev pub decreases-read_items : goal.decreases-read_items
decreases-read_items l = 7 * items_depth (items_view l.items.now) + 7

-- the queries that were read, and what is left
abbrev pub invariant-read_items-loop-item : goal.invariant-read_items-loop-item
invariant-read_items-loop-item l = option_map (before l.queries.items) (items_in l.schema (items_view (drop l.item-index l.items))) ≡ items_in l.schema (items_view l.items)
