-- Bounds of several queries added up.
use Rattle.std.proofs.Common.{List, arith, refl, ◌+◌, ◌≡◌, ℕ}
use Rattle.definitions.specs.Query.{Clauses, Queries, clause, must, must_not, no_clauses, no_queries, query, should}
use Rattle.definitions.specs.Refusing.{clauses_bound, queries_bound}
use Rattle.query_scorers.proofs.AllScores.{total_bound}
use Rattle.query_scorers.specs.Asked.{asked}
use Rattle.query_trees.specs.Walks.{queries_list}

pub clauses_total : (weight : List ℕ → ℕ) (b : ℕ) (cs : Clauses) → total_bound weight b (asked must cs) + total_bound weight b (asked should cs) ≡ clauses_bound weight b cs
clauses_total weight b no_clauses = refl
clauses_total weight b (clause must q cs) = let ih = clauses_total weight b cs in omega (arith, ih)
clauses_total weight b (clause should q cs) = let ih = clauses_total weight b cs in omega (arith, ih)
clauses_total weight b (clause must_not q cs) = let ih = clauses_total weight b cs in omega (arith, ih)

pub queries_total : (weight : List ℕ → ℕ) (b : ℕ) (qs : Queries) → total_bound weight b (queries_list qs) ≡ queries_bound weight b qs
queries_total weight b no_queries = refl
queries_total weight b (query q qs) = let ih = queries_total weight b qs in omega (arith, ih)
