-- Clauses of the code, and those that the definitions make of them.
use Rattle.std.proofs.Common.{[], ap, length, map, nat_eq, refl, false, ◌∷◌, ◌≡◌, List}
use Rattle.definitions.specs.Query as queries
use Rattle.query_text.specs.Clauses.{clause_of}
use Rattle.query_text.specs.Reading as reading
use Rattle.query_trees.proofs.Nodes.{Clause}
use Rattle.query_trees.specs.Queries as trees
use Rattle.query_trees.specs.Queries.{occur_of, query_of}
use Rattle.query_trees.specs.declared.any_query.AnyQuery.{AnyQuery}
use Rattle.query_trees.specs.declared.occur.Occur.{Occur}

-- a clause for each query
pub each_asked : (occur : Occur) (qs : List AnyQuery) → map clause_of (map (λ q. (occur, q)) qs) ≡ reading.asking (occur_of occur) (map query_of qs)
each_asked occur [] = refl
each_asked occur (q ∷ qs) = ap (λ cs. (occur_of occur, query_of q) ∷ cs) (each_asked occur qs)

-- clauses in order
pub in_order : (cs : List Clause) → trees.clauses_of cs ≡ reading.clauses_in (map clause_of cs)
in_order [] = refl
in_order (c ∷ cs) = ap (queries.clause (occur_of c.0) (query_of c.1)) (in_order cs)

-- the query of one clause
pub one_clause : (c : Clause) → query_of c.1 ≡ reading.query_of (map clause_of (c ∷ []))
one_clause c = refl

-- the query of no clause, or of several
pub other_clauses : (cs : List Clause) → nat_eq (length cs) 1 ≡ false → queries.boolean (trees.clauses_of cs) (queries.default_minimum (trees.clauses_of cs)) ≡ reading.query_of (map clause_of cs)
other_clauses [] h = refl
other_clauses (c ∷ []) h = cc
other_clauses (c ∷ d ∷ cs) h = ap (λ l. queries.boolean l (queries.default_minimum l)) (in_order (c ∷ d ∷ cs))
