-- The queries in clauses that aren't refused aren't refused.
use Rattle.std.proofs.Common.{Bool, List, None, cond, false, true, ◌∷◌, ◌≡◌, ℕ}
use Rattle.std.specs.List.{AllByRecursion}
use Rattle.definitions.proofs.Bounds.{accepted_first_clause, accepted_first_query, accepted_more_clauses, accepted_more_queries}
use Rattle.definitions.specs.Query.{Clauses, Occur, Queries, clause, no_clauses, no_queries, query}
use Rattle.definitions.specs.Refusing.{clauses_fault, queries_fault, tree_fault}
use Rattle.definitions.specs.Schema.{Schema}
use Rattle.query_scorers.specs.Asked.{asked, is_same}
use Rattle.query_trees.specs.Walks.{queries_list}

pub asked_pass : (schema : Schema) (weight : List ℕ → ℕ) (b : ℕ) (occur : Occur) (cs : Clauses) → clauses_fault schema weight b cs ≡ None → AllByRecursion (λ q. tree_fault schema weight b q ≡ None) (asked occur cs)
asked_pass schema weight b occur no_clauses passes = tt
asked_pass schema weight b occur (clause o q cs) passes = go (is_same occur o) (accepted_first_clause schema weight b o q cs passes) (asked_pass schema weight b occur cs (accepted_more_clauses schema weight b o q cs passes))
  where
    go : (same : Bool) → tree_fault schema weight b q ≡ None → AllByRecursion (λ q. tree_fault schema weight b q ≡ None) (asked occur cs) → AllByRecursion (λ q. tree_fault schema weight b q ≡ None) (cond same (q ∷ asked occur cs) (asked occur cs))
    go true first rest = (first, rest)
    go false first rest = rest

pub queries_pass : (schema : Schema) (weight : List ℕ → ℕ) (b : ℕ) (qs : Queries) → queries_fault schema weight b qs ≡ None → AllByRecursion (λ q. tree_fault schema weight b q ≡ None) (queries_list qs)
queries_pass schema weight b no_queries passes = tt
queries_pass schema weight b (query q qs) passes = (accepted_first_query schema weight b q qs passes, queries_pass schema weight b qs (accepted_more_queries schema weight b q qs passes))
