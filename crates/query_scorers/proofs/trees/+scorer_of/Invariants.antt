use Rattle.std.proofs.Common.{map, take, ◌*◌, ◌+◌}
use Rattle.definitions.specs.Query.{clauses_depth, depth, queries_depth}
use Rattle.query_scorers.specs.Asked.{asked}
use Rattle.query_scorers.specs.Scores.{AllScore}
use Rattle.query_trees.specs.Queries.{clauses_of, occur_of, queries_of, query_of}
use Rattle.query_scorers.proofs.trees.+scorer_of.Given as goal
use Rattle.query_trees.specs.Walks.{queries_list}

-- a query is deeper than what is in it
abbrev pub decreases-scorer_of : goal.decreases-scorer_of
decreases-scorer_of g l = 4 * depth (query_of l.query.now)

abbrev pub decreases-boolean_scorer : goal.decreases-boolean_scorer
decreases-boolean_scorer g l = 4 * clauses_depth (clauses_of l.clauses.now) + 3

-- clauses are as deep as the deepest of their queries
abbrev pub decreases-scorers_asked : goal.decreases-scorers_asked
decreases-scorers_asked g l = 4 * clauses_depth (clauses_of l.clauses.now) + 2

abbrev pub decreases-max_scorer : goal.decreases-max_scorer
decreases-max_scorer g l = 4 * queries_depth (queries_of l.disjuncts.now) + 3

-- so are queries in order
abbrev pub decreases-scorers_of : goal.decreases-scorers_of
decreases-scorers_of g l = 4 * queries_depth (queries_of l.queries.now) + 2

abbrev pub decreases-boosted_scorer : goal.decreases-boosted_scorer
decreases-boosted_scorer g l = 4 * depth (query_of l.query.now) + 1

abbrev pub decreases-constant_scorer : goal.decreases-constant_scorer
decreases-constant_scorer g l = 4 * depth (query_of l.query.now) + 1

-- a scorer for each clause before that asks this
abbrev pub invariant-scorers_asked-loop-asks : goal.invariant-scorers_asked-loop-asks
invariant-scorers_asked-loop-asks g l = AllScore (g.F.SegmentScorers.similarity l.forms) l.boost (g.F.SegmentScorers.segment l.forms) (asked (occur_of l.occur) (clauses_of (take l.asks-index l.clauses))) (map g.F.Scorer.DocSet.entries l.scorers.items)

-- a scorer for each query before
abbrev pub invariant-scorers_of-loop-query : goal.invariant-scorers_of-loop-query
invariant-scorers_of-loop-query g l = AllScore (g.F.SegmentScorers.similarity l.forms) l.boost (g.F.SegmentScorers.segment l.forms) (queries_list (queries_of (take l.query-index l.queries))) (map g.F.Scorer.DocSet.entries l.scorers.items)
