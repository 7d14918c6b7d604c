-- Queries are read back from their marks, by which they are stored.
use Rattle.std.specs.Prelude.{[], ◌++◌, ◌∷◌, ◌≡◌, List, refl}
use mathlib.Core.Path.{◌∙◌, ap}
use Rattle.std.specs.Coded.{Coded, code_by, coded_list}
use Rattle.definitions.specs.Query.{Clauses, Queries, Query, all, boolean, boost, clause, const_score, disjunction_max, empty, no_clauses, no_queries, phrase, phrase_prefix, query, term}
use Rattle.query_trees.specs.QueryCodes.{Mark, Part, boolean_mark, boost_mark, clause_mark, clauses_at, clauses_marks, const_score_mark, disjunction_max_mark, last_clauses, last_queries, last_query, marks, of_clauses, of_queries, of_query, past_mark, past_marks, queries_at, queries_marks, query_at, query_mark}

-- marks after others are passed after them
past-append : (ms ns : List Mark) (ps : List Part) → past_marks (ms ++ ns) ps ≡ past_marks ns (past_marks ms ps)
past-append [] ns ps = refl
past-append (m ∷ ms) ns ps = past-append ms ns (past_mark m ps)

-- past its marks, a query is read
mutual
  past-query : (q : Query) (ps : List Part) → past_marks (marks q) ps ≡ of_query q ∷ ps
  past-query all ps = refl
  past-query empty ps = refl
  past-query (term t option) ps = refl
  past-query (phrase terms slop) ps = refl
  past-query (phrase_prefix terms limit) ps = refl
  past-query (boolean cs least) ps = past-append (clauses_marks cs) (boolean_mark least ∷ []) ps ∙ ap (past_mark (boolean_mark least)) (past-clauses cs ps)
  past-query (disjunction_max qs tie) ps = past-append (queries_marks qs) (disjunction_max_mark tie ∷ []) ps ∙ ap (past_mark (disjunction_max_mark tie)) (past-queries qs ps)
  past-query (boost factor q) ps = past-append (marks q) (boost_mark factor ∷ []) ps ∙ ap (past_mark (boost_mark factor)) (past-query q ps)
  past-query (const_score constant q) ps = past-append (marks q) (const_score_mark constant ∷ []) ps ∙ ap (past_mark (const_score_mark constant)) (past-query q ps)

  past-clauses : (cs : Clauses) (ps : List Part) → past_marks (clauses_marks cs) ps ≡ of_clauses cs ∷ ps
  past-clauses no_clauses ps = refl
  past-clauses (clause occur q cs) ps =
      past-append (marks q) (clauses_marks cs ++ (clause_mark occur ∷ [])) ps
      ∙ ap (past_marks (clauses_marks cs ++ (clause_mark occur ∷ []))) (past-query q ps)
      ∙ past-append (clauses_marks cs) (clause_mark occur ∷ []) (of_query q ∷ ps)
      ∙ ap (past_mark (clause_mark occur)) (past-clauses cs (of_query q ∷ ps))

  past-queries : (qs : Queries) (ps : List Part) → past_marks (queries_marks qs) ps ≡ of_queries qs ∷ ps
  past-queries no_queries ps = refl
  past-queries (query q qs) ps =
      past-append (marks q) (queries_marks qs ++ (query_mark ∷ [])) ps
      ∙ ap (past_marks (queries_marks qs ++ (query_mark ∷ []))) (past-query q ps)
      ∙ past-append (queries_marks qs) (query_mark ∷ []) (of_query q ∷ ps)
      ∙ ap (past_mark query_mark) (past-queries qs (of_query q ∷ ps))

-- queries are read back from their marks
pub query_at-marks : (q : Query) → query_at (marks q) ≡ q
query_at-marks q = ap last_query (past-query q [])

pub clauses_at-marks : (cs : Clauses) → clauses_at (clauses_marks cs) ≡ cs
clauses_at-marks cs = ap last_clauses (past-clauses cs [])

pub queries_at-marks : (qs : Queries) → queries_at (queries_marks qs) ≡ qs
queries_at-marks qs = ap last_queries (past-queries qs [])

-- queries are stored as their marks
abbrev pub query_code : Coded Mark → Coded Query
query_code mark = code_by (List Mark) (coded_list mark) marks query_at query_at-marks

abbrev pub clauses_code : Coded Mark → Coded Clauses
clauses_code mark = code_by (List Mark) (coded_list mark) clauses_marks clauses_at clauses_at-marks

abbrev pub queries_code : Coded Mark → Coded Queries
queries_code mark = code_by (List Mark) (coded_list mark) queries_marks queries_at queries_at-marks
