-- Queries as lists of marks, from which they are read back: so a proof tells queries apart.
use Rattle.std.specs.Prelude.{[], ◌++◌, ◌∷◌, List, ℕ, ℤ}
use Rattle.definitions.specs.Query.{Clauses, Occur, Queries, Query, Terms, all, boolean, boost, clause, const_score, disjunction_max, empty, no_clauses, no_queries, phrase, phrase_prefix, query, term}
use Rattle.definitions.specs.Schema.{IndexRecordOption}

-- what a query is made of, without the queries in it
pub data Mark : Type 0 where
  all_mark : Mark
  empty_mark : Mark
  term_mark : List ℕ → IndexRecordOption → Mark
  phrase_mark : Terms → ℕ → Mark
  phrase_prefix_mark : Terms → ℕ → Mark
  boolean_mark : ℕ → Mark
  disjunction_max_mark : ℤ → Mark
  boost_mark : ℤ → Mark
  const_score_mark : ℤ → Mark
  no_clauses_mark : Mark
  clause_mark : Occur → Mark
  no_queries_mark : Mark
  query_mark : Mark

-- the marks of a query, those of the queries in it first
abbrev mutual
  pub marks : Query → List Mark
  marks all = all_mark ∷ []
  marks empty = empty_mark ∷ []
  marks (term t option) = term_mark t option ∷ []
  marks (phrase terms slop) = phrase_mark terms slop ∷ []
  marks (phrase_prefix terms limit) = phrase_prefix_mark terms limit ∷ []
  marks (boolean cs least) = clauses_marks cs ++ (boolean_mark least ∷ [])
  marks (disjunction_max qs tie) = queries_marks qs ++ (disjunction_max_mark tie ∷ [])
  marks (boost factor q) = marks q ++ (boost_mark factor ∷ [])
  marks (const_score constant q) = marks q ++ (const_score_mark constant ∷ [])

  pub clauses_marks : Clauses → List Mark
  clauses_marks no_clauses = no_clauses_mark ∷ []
  clauses_marks (clause occur q cs) = marks q ++ (clauses_marks cs ++ (clause_mark occur ∷ []))

  pub queries_marks : Queries → List Mark
  queries_marks no_queries = no_queries_mark ∷ []
  queries_marks (query q qs) = marks q ++ (queries_marks qs ++ (query_mark ∷ []))

-- what was read so far
pub data Part : Type 0 where
  of_query : Query → Part
  of_clauses : Clauses → Part
  of_queries : Queries → Part

-- the parts after one more mark, the last first
abbrev pub past_mark : Mark → List Part → List Part
past_mark all_mark ps = of_query all ∷ ps
past_mark empty_mark ps = of_query empty ∷ ps
past_mark (term_mark t option) ps = of_query (term t option) ∷ ps
past_mark (phrase_mark terms slop) ps = of_query (phrase terms slop) ∷ ps
past_mark (phrase_prefix_mark terms limit) ps = of_query (phrase_prefix terms limit) ∷ ps
past_mark (boolean_mark least) (of_clauses cs ∷ ps) = of_query (boolean cs least) ∷ ps
past_mark (disjunction_max_mark tie) (of_queries qs ∷ ps) = of_query (disjunction_max qs tie) ∷ ps
past_mark (boost_mark factor) (of_query q ∷ ps) = of_query (boost factor q) ∷ ps
past_mark (const_score_mark constant) (of_query q ∷ ps) = of_query (const_score constant q) ∷ ps
past_mark no_clauses_mark ps = of_clauses no_clauses ∷ ps
past_mark (clause_mark occur) (of_clauses cs ∷ of_query q ∷ ps) = of_clauses (clause occur q cs) ∷ ps
past_mark no_queries_mark ps = of_queries no_queries ∷ ps
past_mark query_mark (of_queries qs ∷ of_query q ∷ ps) = of_queries (query q qs) ∷ ps
past_mark _ ps = ps

-- the parts after all marks
abbrev pub past_marks : List Mark → List Part → List Part
past_marks [] ps = ps
past_marks (m ∷ ms) ps = past_marks ms (past_mark m ps)

-- what was read last
abbrev pub last_query : List Part → Query
last_query (of_query q ∷ ps) = q
last_query _ = empty

abbrev pub last_clauses : List Part → Clauses
last_clauses (of_clauses cs ∷ ps) = cs
last_clauses _ = no_clauses

abbrev pub last_queries : List Part → Queries
last_queries (of_queries qs ∷ ps) = qs
last_queries _ = no_queries

-- what these marks stand for
abbrev pub query_at : List Mark → Query
query_at ms = last_query (past_marks ms [])

abbrev pub clauses_at : List Mark → Clauses
clauses_at ms = last_clauses (past_marks ms [])

abbrev pub queries_at : List Mark → Queries
queries_at ms = last_queries (past_marks ms [])
