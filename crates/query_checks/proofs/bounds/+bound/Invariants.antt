use Rattle.std.proofs.Common.{drop, ◌*◌, ◌+◌, ◌≡◌, ◌≤◌}
use Rattle.definitions.specs.Query.{clauses_depth, depth, queries_depth}
use Rattle.definitions.specs.Refusing.{clauses_bound, queries_bound}
use Rattle.definitions.specs.Scoring.{max_score}
use Rattle.query_trees.specs.Queries.{clauses_of, queries_of, query_of}
use Rattle.query_checks.proofs.bounds.+bound.Given as goal

-- a query is deeper than what is in it
abbrev pub decreases-bound : goal.decreases-bound
decreases-bound g l = 3 * depth (query_of l.query.now)

-- clauses are deeper than what is in them
abbrev pub decreases-clauses_bound : goal.decreases-clauses_bound
decreases-clauses_bound g l = 3 * clauses_depth (clauses_of l.clauses.now) + 2

-- a clause is as deep as its query
abbrev pub decreases-clause_bound : goal.decreases-clause_bound
decreases-clause_bound g l = 3 * depth (query_of l.query.now) + 1

-- queries in order are as deep as the deepest
abbrev pub decreases-disjuncts_bound : goal.decreases-disjuncts_bound
decreases-disjuncts_bound g l = 3 * queries_depth (queries_of l.disjuncts.now) + 2

-- the sum so far and what is left make the whole
abbrev pub invariant-clauses_bound-loop-occur : goal.invariant-clauses_bound-loop-occur
invariant-clauses_bound-loop-occur g l =
    let weight = (g.S.Statistics.similarity l.statistics).weight in
    record {
      whole : l.sum + clauses_bound weight 1 (clauses_of (drop l.occur-index l.clauses)) ≡ clauses_bound weight 1 (clauses_of l.clauses);
      within : l.sum ≤ max_score;
    }

abbrev pub invariant-disjuncts_bound-loop-query : goal.invariant-disjuncts_bound-loop-query
invariant-disjuncts_bound-loop-query g l =
    let weight = (g.S.Statistics.similarity l.statistics).weight in
    record {
      whole : l.sum + queries_bound weight 1 (queries_of (drop l.query-index l.disjuncts)) ≡ queries_bound weight 1 (queries_of l.disjuncts);
      within : l.sum ≤ max_score;
    }
