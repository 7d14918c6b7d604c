-- Query trees.
use Rattle.std.specs.Prelude.{Bool, List, false, if◌then◌else◌, max, suc, true, ℕ, ℤ}
use Rattle.definitions.specs.Schema.{IndexRecordOption}

-- terms with their offsets in a phrase
abbrev pub Terms : Type 0
Terms = List (ℕ × List ℕ)

-- what a clause asks of its query
pub data Occur : Type 0 where
  must : Occur
  should : Occur
  must_not : Occur

-- A phrase has a slop, a phrase prefix a limit of expansions, a bool the least number of its should
-- clauses that match, and a dismax a tie breaker in thousandths.
mutual
  pub data Query : Type 0 where
    all : Query
    empty : Query
    term : List ℕ → IndexRecordOption → Query
    phrase : Terms → ℕ → Query
    phrase_prefix : Terms → ℕ → Query
    boolean : Clauses → ℕ → Query
    disjunction_max : Queries → ℤ → Query
    boost : ℤ → Query → Query
    const_score : ℤ → Query → Query

  pub data Clauses : Type 0 where
    no_clauses : Clauses
    clause : Occur → Query → Clauses → Clauses

  pub data Queries : Type 0 where
    no_queries : Queries
    query : Query → Queries → Queries

-- the nodes on the longest path
abbrev mutual
  pub depth : Query → ℕ
  depth (boolean cs least) = suc (clauses_depth cs)
  depth (disjunction_max qs tie) = suc (queries_depth qs)
  depth (boost factor q) = suc (depth q)
  depth (const_score constant q) = suc (depth q)
  depth _ = 1

  pub clauses_depth : Clauses → ℕ
  clauses_depth no_clauses = 0
  clauses_depth (clause occur q cs) = max (depth q) (clauses_depth cs)

  pub queries_depth : Queries → ℕ
  queries_depth no_queries = 0
  queries_depth (query q qs) = max (depth q) (queries_depth qs)

-- the least number of matching should clauses where none is given: 1 where there is a clause and all
-- clauses are should clauses, else 0
abbrev pub all_should : Clauses → Bool
all_should no_clauses = true
all_should (clause should q cs) = all_should cs
all_should (clause must q cs) = false
all_should (clause must_not q cs) = false

abbrev pub default_minimum : Clauses → ℕ
default_minimum no_clauses = 0
default_minimum (clause occur q cs) = if all_should (clause occur q cs) then 1 else 0
