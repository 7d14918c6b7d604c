-- What the weights of borrowed queries have.
use Rattle.std.specs.Prelude.{ℕ, ℤ}
use Rattle.definitions.specs.Query.{Clauses, Queries, Query}
use Rattle.query_trees.specs.Queries.{clauses_of, queries_of, query_of}
use Rattle.weights.specs.declared.boolean_weight.BooleanWeight.{BooleanWeight}
use Rattle.weights.specs.declared.const_score_weight.ConstScoreWeight.{ConstScoreWeight}
use Rattle.weights.specs.declared.disjunction_max_weight.DisjunctionMaxWeight.{DisjunctionMaxWeight}
use Rattle.weights.specs.declared.query_weight.QueryWeight.{QueryWeight}

module _ {W : Type 0} where
  -- the query
  abbrev pub query_in : QueryWeight W → Query
  query_in w = query_of w.query.now

  -- what makes the scorers of its leaves
  abbrev pub query_weights : QueryWeight W → W
  query_weights w = w.weights

  -- the clauses
  abbrev pub clauses_in : BooleanWeight W → Clauses
  clauses_in w = clauses_of w.clauses.now

  -- how many of the should clauses must match
  abbrev pub minimum_in : BooleanWeight W → ℕ
  minimum_in w = w.minimum_number_should_match

  abbrev pub boolean_weights : BooleanWeight W → W
  boolean_weights w = w.weights

  -- the queries, of which the best score counts
  abbrev pub disjuncts_in : DisjunctionMaxWeight W → Queries
  disjuncts_in w = queries_of w.disjuncts.now

  -- the thousandths of the other scores
  abbrev pub tie_in : DisjunctionMaxWeight W → ℤ
  tie_in w = w.tie_breaker

  abbrev pub max_weights : DisjunctionMaxWeight W → W
  max_weights w = w.weights

  -- the query whose documents have one score
  abbrev pub constant_query_in : ConstScoreWeight W → Query
  constant_query_in w = query_of w.query.now

  -- the score
  abbrev pub constant_in : ConstScoreWeight W → ℤ
  constant_in w = w.score

  abbrev pub constant_weights : ConstScoreWeight W → W
  constant_weights w = w.weights
