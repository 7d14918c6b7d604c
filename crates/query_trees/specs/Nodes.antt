-- The nodes of queries, counted so that each step of letting a query go lowers their number.
use Rattle.std.specs.Prelude.{◌+◌, suc, ℕ}
use Rattle.definitions.specs.Query.{Clauses, Queries, Query, boolean, boost, clause, const_score, disjunction_max, no_clauses, no_queries, query}

-- the nodes of a query, of which those with a list of queries count twice
abbrev mutual
  pub nodes : Query → ℕ
  nodes (boolean cs least) = 2 + clauses_nodes cs
  nodes (disjunction_max qs tie) = 2 + queries_nodes qs
  nodes (boost factor q) = suc (nodes q)
  nodes (const_score constant q) = suc (nodes q)
  nodes _ = 1

  pub clauses_nodes : Clauses → ℕ
  clauses_nodes no_clauses = 0
  clauses_nodes (clause occur q cs) = nodes q + clauses_nodes cs

  pub queries_nodes : Queries → ℕ
  queries_nodes no_queries = 0
  queries_nodes (query q qs) = nodes q + queries_nodes qs

-- the nodes above a query that is let go: the first query of a list is what is above that list
abbrev mutual
  pub nodes_above : Query → ℕ
  nodes_above (boolean cs least) = clauses_above cs
  nodes_above (disjunction_max qs tie) = queries_above qs
  nodes_above (boost factor q) = nodes q
  nodes_above (const_score constant q) = nodes q
  nodes_above _ = 0

  pub clauses_above : Clauses → ℕ
  clauses_above no_clauses = 0
  clauses_above (clause occur q cs) = suc (nodes_above q + clauses_nodes cs)

  pub queries_above : Queries → ℕ
  queries_above no_queries = 0
  queries_above (query q qs) = suc (nodes_above q + queries_nodes qs)
