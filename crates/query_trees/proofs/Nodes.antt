-- The nodes of clauses and queries, one after the other.
use Rattle.std.proofs.Common.{[], length, ◌+◌, ◌++◌, ◌<◌, ◌∷◌, ◌≡◌, List, arith}
use Rattle.query_trees.specs.Nodes.{clauses_above, clauses_nodes, nodes, queries_above, queries_nodes}
use Rattle.query_trees.specs.Queries.{clauses_of, queries_of, query_of}
use Rattle.query_trees.specs.declared.any_query.AnyQuery.{AnyQuery}
use Rattle.query_trees.specs.declared.occur.Occur.{Occur}

abbrev pub Clause : Type 0
Clause = Occur × AnyQuery

-- the nodes of one more clause
pub last_nodes : (cs : List Clause) (c : Clause) → clauses_nodes (clauses_of (cs ++ c ∷ [])) ≡ clauses_nodes (clauses_of cs) + nodes (query_of c.1)
last_nodes [] c = omega arith
last_nodes (d ∷ cs) c = omega (arith, last_nodes cs c)

-- one more clause has its nodes above, where it isn't the first
pub last_above : (cs : List Clause) (c : Clause) → 0 < length cs → clauses_above (clauses_of (cs ++ c ∷ [])) ≡ clauses_above (clauses_of cs) + nodes (query_of c.1)
last_above [] c some = omega (arith, some)
last_above (d ∷ cs) c some = omega (arith, last_nodes cs c)

-- the nodes of one more query
pub last_query_nodes : (qs : List AnyQuery) (q : AnyQuery) → queries_nodes (queries_of (qs ++ q ∷ [])) ≡ queries_nodes (queries_of qs) + nodes (query_of q)
last_query_nodes [] q = omega arith
last_query_nodes (p ∷ qs) q = omega (arith, last_query_nodes qs q)

-- one more query has its nodes above, where it isn't the first
pub last_query_above : (qs : List AnyQuery) (q : AnyQuery) → 0 < length qs → queries_above (queries_of (qs ++ q ∷ [])) ≡ queries_above (queries_of qs) + nodes (query_of q)
last_query_above [] q some = omega (arith, some)
last_query_above (p ∷ qs) q some = omega (arith, last_query_nodes qs q)
