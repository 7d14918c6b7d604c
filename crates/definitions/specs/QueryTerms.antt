-- The terms that a query reads, and of which it needs positions.
use Rattle.std.specs.Prelude.{[], ◌++◌, ◌∷◌, Bool, List, false, map, true, ℕ}
use Rattle.definitions.specs.Phrases.{by_offset, whole_terms}
use Rattle.definitions.specs.Query.{Clauses, Queries, Query, Terms, boolean, boost, clause, const_score, disjunction_max, no_clauses, no_queries, phrase, phrase_prefix, query, term}

-- terms of a phrase, whose positions are needed
abbrev pub with_positions : Terms → List (List ℕ × Bool)
with_positions terms = map (λ t. (t.1, true)) terms

-- the terms of all nodes in order, each with whether its positions are needed; the prefix of a phrase prefix is left out
abbrev mutual
  pub query_terms : Query → List (List ℕ × Bool)
  query_terms (term t option) = (t, false) ∷ []
  query_terms (phrase terms slop) = with_positions (by_offset terms)
  query_terms (phrase_prefix terms limit) = with_positions (whole_terms terms)
  query_terms (boolean cs least) = clauses_terms cs
  query_terms (disjunction_max qs tie) = queries_terms qs
  query_terms (boost factor q) = query_terms q
  query_terms (const_score constant q) = query_terms q
  query_terms _ = []

  pub clauses_terms : Clauses → List (List ℕ × Bool)
  clauses_terms no_clauses = []
  clauses_terms (clause occur q cs) = query_terms q ++ clauses_terms cs

  pub queries_terms : Queries → List (List ℕ × Bool)
  queries_terms no_queries = []
  queries_terms (query q qs) = query_terms q ++ queries_terms qs
