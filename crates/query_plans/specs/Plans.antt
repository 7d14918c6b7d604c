-- Queries that stand for others.
use Rattle.std.specs.Prelude.{⊤, ◌&&◌, ◌*◌, ◌+◌, ◌==◌, ◌≡◌, Bool, count_by, false, nat_le, sum, true, ℕ}
use Rattle.std.specs.List.{list_all, list_any}
use Rattle.definitions.specs.Analyzers.{Analyzer}
use Rattle.definitions.specs.Matching.{agrees, answers_of, is_counted, is_met_should, matches}
use Rattle.definitions.specs.Query.{Clauses, Occur, Queries, Query, clause, must, must_not, no_clauses, no_queries, query, should}
use Rattle.definitions.specs.Schema.{Schema}
use Rattle.definitions.specs.Scoring.{Similarity, clause_scores, score}
use Rattle.definitions.specs.Values.{Document}

-- a query that finds the same documents as another one under a boost, with the same scores
pub record IsPlan (boost : ℕ) (q p : Query) : Type 0 where
  pub same_matches : (schema : Schema) (analyze : Analyzer) (doc : Document)
      → matches schema analyze doc p ≡ matches schema analyze doc q
  pub same_scores : (schema : Schema) (analyze : Analyzer) (sim : Similarity) (doc : Document) (b : ℕ)
      → matches schema analyze doc q ≡ true
      → score schema analyze sim doc b p ≡ score schema analyze sim doc (b * boost) q

-- each query stands for the one at its place
abbrev pub EachPlan : ℕ → Queries → Queries → Type 0
EachPlan boost no_queries no_queries = ⊤
EachPlan boost no_queries (query p ps) = ⊥
EachPlan boost (query q qs) no_queries = ⊥
EachPlan boost (query q qs) (query p ps) = IsPlan boost q p × EachPlan boost qs ps

-- Clauses that stand for others, among any further ones, where at least `least` should clauses have to match: they
-- agree where those do, add as much to whether enough should clauses match, and where they agree to the rest.
pub record ArePlans (least boost : ℕ) (cs ds : Clauses) : Type 0 where
  pub agree : (schema : Schema) (analyze : Analyzer) (doc : Document)
      → list_all agrees (answers_of schema analyze doc ds) ≡ list_all agrees (answers_of schema analyze doc cs)
  pub enough : (schema : Schema) (analyze : Analyzer) (doc : Document) (others : ℕ)
      → nat_le least (others + count_by is_met_should (answers_of schema analyze doc ds))
      ≡ nat_le least (others + count_by is_met_should (answers_of schema analyze doc cs))
  pub counted : (schema : Schema) (analyze : Analyzer) (doc : Document)
      → list_all agrees (answers_of schema analyze doc cs) ≡ true
      → list_any (λ a. is_counted a.0 && a.1) (answers_of schema analyze doc ds)
      ≡ list_any (λ a. is_counted a.0 && a.1) (answers_of schema analyze doc cs)
  pub scores : (schema : Schema) (analyze : Analyzer) (sim : Similarity) (doc : Document) (b : ℕ)
      → list_all agrees (answers_of schema analyze doc cs) ≡ true
      → sum (clause_scores schema analyze sim doc b ds) ≡ sum (clause_scores schema analyze sim doc (b * boost) cs)

-- whether a bool of one clause that asks this asks what the clause's query does
abbrev pub is_itself : ℕ → Occur → Bool
is_itself least must = least == 0
is_itself least should = nat_le least 1
is_itself least must_not = false

-- how many should clauses there are
abbrev pub one_if_should : Occur → ℕ
one_if_should should = 1
one_if_should must = 0
one_if_should must_not = 0

abbrev pub num_should : Clauses → ℕ
num_should no_clauses = 0
num_should (clause occur q cs) = one_if_should occur + num_should cs

-- what a clause asks where all should clauses have to match
abbrev pub asked_occur : Bool → Occur → Occur
asked_occur true should = must
asked_occur true must = must
asked_occur true must_not = must_not
asked_occur false occur = occur

-- clauses whose should clauses are musts where all of them have to match
abbrev pub asked_for : Bool → Clauses → Clauses
asked_for all no_clauses = no_clauses
asked_for all (clause occur q cs) = clause (asked_occur all occur) q (asked_for all cs)

-- clauses whose should clauses are musts
abbrev pub required : Clauses → Clauses
required cs = asked_for true cs

-- clauses behind others
abbrev pub joined : Clauses → Clauses → Clauses
joined no_clauses ds = ds
joined (clause occur q cs) ds = clause occur q (joined cs ds)

-- the queries of clauses, each asked for alike
abbrev pub each_asking : Occur → Clauses → Clauses
each_asking occur no_clauses = no_clauses
each_asking occur (clause asks q cs) = clause occur q (each_asking occur cs)

-- whether there is a clause
abbrev pub is_some : Clauses → Bool
is_some no_clauses = false
is_some (clause occur q cs) = true
