use Rattle.std.proofs.Common.{drop, nat_lt, ◌*◌, ◌+◌, ◌≡◌}
use Rattle.definitions.specs.Query.{clauses_depth, depth, queries_depth}
use Rattle.query_trees.specs.Queries.{clauses_of, queries_of, query_of}
use Rattle.query_checks.proofs.checks.+is_deeper.Given as goal

-- a query is deeper than what is in it
abbrev pub decreases-is_deeper : goal.decreases-is_deeper
decreases-is_deeper l = 2 * depth (query_of l.query.now)

-- clauses are deeper than what is in them
abbrev pub decreases-any_clause_is_deeper : goal.decreases-any_clause_is_deeper
decreases-any_clause_is_deeper l = 2 * clauses_depth (clauses_of l.clauses.now) + 1

-- queries in order are as deep as the deepest
abbrev pub decreases-any_is_deeper : goal.decreases-any_is_deeper
decreases-any_is_deeper l = 2 * queries_depth (queries_of l.queries.now) + 1

-- what is left decides
abbrev pub invariant-any_clause_is_deeper-loop-occur : goal.invariant-any_clause_is_deeper-loop-occur
invariant-any_clause_is_deeper-loop-occur l = nat_lt l.nodes (clauses_depth (clauses_of (drop l._occur-index l.clauses))) ≡ nat_lt l.nodes (clauses_depth (clauses_of l.clauses))

abbrev pub invariant-any_is_deeper-loop-query : goal.invariant-any_is_deeper-loop-query
invariant-any_is_deeper-loop-query l = nat_lt l.nodes (queries_depth (queries_of (drop l.query-index l.queries))) ≡ nat_lt l.nodes (queries_depth (queries_of l.queries))
