-- Clauses, queries and terms in order, as lists make them.
use Rattle.std.proofs.Common.{[], ap, drop, false, get_or, length, map, nat_eq, refl, suc, sym, true, zero, ◌+◌, ◌<◌, ◌≤◌, ◌∙◌, ◌∷◌, ◌≡◌, List, ℕ, if◌then◌else◌, arith}
use Rattle.std.proofs.lemmas.List.{at_drop_more}
use Rattle.definitions.specs.Query as definitions
use Rattle.definitions.specs.Query.{all_should, clauses_depth, default_minimum, depth, queries_depth}
use Rattle.definitions.specs.Schema.{with_freqs}
use Rattle.query_trees.proofs.Nodes.{Clause}
use Rattle.query_trees.specs.Queries.{clauses_of, each_asks, for_each_term, occur_of, queries_of, query_of}
use Rattle.query_trees.specs.declared.any_query.AnyQuery.{AnyQuery}
use Rattle.query_trees.specs.declared.any_query.AnyQuery.TheVariants.{Term}
use Rattle.query_trees.specs.declared.occur.Occur.{Occur}

-- one should clause has to match where all are should clauses
pub minimum_of_all : (cs : List Clause) → nat_eq (length cs) 0 ≡ false → all_should (clauses_of cs) ≡ true → 1 ≡ default_minimum (clauses_of cs)
minimum_of_all [] some all = cc
minimum_of_all (c ∷ cs) some all = ap (λ b. if b then 1 else 0) (sym all)

-- a clause for each query
pub each_of : (occur : Occur) (qs : List AnyQuery) → clauses_of (map (λ q. (occur, q)) qs) ≡ each_asks (occur_of occur) (queries_of qs)
each_of occur [] = refl
each_of occur (q ∷ qs) = ap (definitions.clause (occur_of occur) (query_of q)) (each_of occur qs)

-- none of which may match alone
pub no_minimum : (qs : definitions.Queries) → default_minimum (each_asks definitions.must qs) ≡ 0
no_minimum definitions.no_queries = refl
no_minimum (definitions.query q qs) = refl

-- a query for each term
pub terms_of : (ts : List (List ℕ)) → queries_of (map (λ t. Term (t, with_freqs)) ts) ≡ for_each_term ts
terms_of [] = refl
terms_of (t ∷ ts) = ap (definitions.query (definitions.term t with_freqs)) (terms_of ts)

-- ---- one more of those that are left

-- what is left begins with the next clause
pub next_clause : (cs : List Clause) (i : ℕ) (c : Clause) → i < length cs → c ≡ get_or cs i c → drop i cs ≡ c ∷ drop (i + 1) cs
next_clause cs i c lt same = at_drop_more (λ l. l) cs i c lt ∙ ap (λ d. d ∷ drop (i + 1) cs) (sym same)

-- what is left begins with the next query
pub next_query : (qs : List AnyQuery) (i : ℕ) (q : AnyQuery) → i < length qs → q ≡ get_or qs i q → drop i qs ≡ q ∷ drop (i + 1) qs
next_query qs i q lt same = at_drop_more (λ l. l) qs i q lt ∙ ap (λ d. d ∷ drop (i + 1) qs) (sym same)

clauses_left : (i : ℕ) (cs : List Clause) → clauses_depth (clauses_of (drop i cs)) ≤ clauses_depth (clauses_of cs)
clauses_left zero cs = omega arith
clauses_left (suc i) [] = omega arith
clauses_left (suc i) (c ∷ cs) = omega (arith, clauses_left i cs)

-- clauses are at least as deep as each of them
pub clause_depth : (cs : List Clause) (i : ℕ) (c : Clause) → i < length cs → c ≡ get_or cs i c → depth (query_of c.1) ≤ clauses_depth (clauses_of cs)
clause_depth cs i c lt same = let at = ap (λ l. clauses_depth (clauses_of l)) (next_clause cs i c lt same) in omega (arith, at, clauses_left i cs)

queries_left : (i : ℕ) (qs : List AnyQuery) → queries_depth (queries_of (drop i qs)) ≤ queries_depth (queries_of qs)
queries_left zero qs = omega arith
queries_left (suc i) [] = omega arith
queries_left (suc i) (q ∷ qs) = omega (arith, queries_left i qs)

-- queries are at least as deep as each of them
pub query_depth : (qs : List AnyQuery) (i : ℕ) (q : AnyQuery) → i < length qs → q ≡ get_or qs i q → depth (query_of q) ≤ queries_depth (queries_of qs)
query_depth qs i q lt same = let at = ap (λ l. queries_depth (queries_of l)) (next_query qs i q lt same) in omega (arith, at, queries_left i qs)
