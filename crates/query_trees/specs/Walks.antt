-- The nodes of queries as lists.
use Rattle.std.specs.Prelude.{[], ◌++◌, ◌∷◌, Bool, List, false, map, reverse, ℕ}
use Rattle.std.specs.Borrow.{Bor}
use Rattle.definitions.specs.Phrases.{by_offset, whole_terms}
use Rattle.definitions.specs.Query.{Clauses, Queries, Query, boolean, boost, clause, const_score, disjunction_max, no_clauses, no_queries, phrase, phrase_prefix, query, term}
use Rattle.definitions.specs.QueryTerms.{with_positions}
use Rattle.query_trees.specs.Queries.{query_of}
use Rattle.query_trees.specs.declared.any_query.AnyQuery.{AnyQuery}

-- a query behind a reference
abbrev pub seen : Bor AnyQuery → Query
seen q = query_of q.now

-- the queries of clauses, in order
abbrev pub clauses_children : Clauses → List Query
clauses_children no_clauses = []
clauses_children (clause occur q cs) = q ∷ clauses_children cs

-- queries as a list
abbrev pub queries_list : Queries → List Query
queries_list no_queries = []
queries_list (query q qs) = q ∷ queries_list qs

-- the queries right below a node, in order
abbrev pub children : Query → List Query
children (boolean cs least) = clauses_children cs
children (disjunction_max qs tie) = queries_list qs
children (boost factor q) = q ∷ []
children (const_score constant q) = q ∷ []
children _ = []

-- all nodes, each before those below it, which are in order
abbrev mutual
  pub walk : Query → List Query
  walk (boolean cs least) = boolean cs least ∷ clauses_walk cs
  walk (disjunction_max qs tie) = disjunction_max qs tie ∷ queries_walk qs
  walk (boost factor q) = boost factor q ∷ walk q
  walk (const_score constant q) = const_score constant q ∷ walk q
  walk q = q ∷ []

  pub clauses_walk : Clauses → List Query
  clauses_walk no_clauses = []
  clauses_walk (clause occur q cs) = walk q ++ clauses_walk cs

  pub queries_walk : Queries → List Query
  queries_walk no_queries = []
  queries_walk (query q qs) = walk q ++ queries_walk qs

-- the nodes of several queries, from the last of these to the first
abbrev pub walk_back : List Query → List Query
walk_back [] = []
walk_back (q ∷ qs) = walk_back qs ++ walk q

-- the terms of a node, without those of the queries below it
abbrev pub own_terms : Query → List (List ℕ × Bool)
own_terms (term t option) = (t, false) ∷ []
own_terms (phrase terms slop) = with_positions (by_offset terms)
own_terms (phrase_prefix terms limit) = with_positions (whole_terms terms)
own_terms _ = []

-- queries that are taken off the end, the last one first
abbrev pub stack : List AnyQuery → List Query
stack qs = reverse (map query_of qs)
