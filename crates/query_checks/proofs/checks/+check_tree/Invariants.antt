use Rattle.std.proofs.Common.{drop, ◌*◌, ◌+◌, ◌≡◌}
use Rattle.definitions.specs.Query.{clauses_depth, depth, queries_depth}
use Rattle.definitions.specs.Refusing.{clauses_fault, queries_fault}
use Rattle.query_trees.specs.Queries.{clauses_of, queries_of, query_of}
use Rattle.query_checks.proofs.checks.+check_tree.Given as goal

-- a query is deeper than what is in it
abbrev pub decreases-check_tree : goal.decreases-check_tree
decreases-check_tree g l = 2 * depth (query_of l.query.now)

-- clauses are deeper than what is in them
abbrev pub decreases-check_clauses : goal.decreases-check_clauses
decreases-check_clauses g l = 2 * clauses_depth (clauses_of l.clauses.now) + 1

-- queries in order are as deep as the deepest
abbrev pub decreases-check_disjuncts : goal.decreases-check_disjuncts
decreases-check_disjuncts g l = 2 * queries_depth (queries_of l.disjuncts.now) + 1

-- what is left decides
abbrev pub invariant-check_clauses-loop-occur : goal.invariant-check_clauses-loop-occur
invariant-check_clauses-loop-occur g l =
    let weight = (g.S.Statistics.similarity l.statistics).weight in
    clauses_fault l.schema weight l.boost (clauses_of (drop l._occur-index l.clauses)) ≡ clauses_fault l.schema weight l.boost (clauses_of l.clauses)

abbrev pub invariant-check_disjuncts-loop-disjunct : goal.invariant-check_disjuncts-loop-disjunct
invariant-check_disjuncts-loop-disjunct g l =
    let weight = (g.S.Statistics.similarity l.statistics).weight in
    queries_fault l.schema weight l.boost (queries_of (drop l.disjunct-index l.disjuncts)) ≡ queries_fault l.schema weight l.boost (queries_of l.disjuncts)
