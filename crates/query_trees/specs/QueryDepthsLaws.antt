-- What holds queries is deeper than they are: laws.
use Rattle.definitions.specs.Query as definitions
use Rattle.std.specs.Prelude.{[], ◌∷◌, ◌≤◌, List, max}
use Rattle.std.proofs.Common.{arith}
use denote.Param.Weighed.{most}
use Rattle.query_trees.specs.Queries.{clauses_of, queries_of, query_of}
use Rattle.query_trees.specs.declared.any_query.AnyQuery.{AnyQuery}
use Rattle.query_trees.specs.declared.any_query.AnyQuery.TheVariants.{All, Boolean, Boost, ConstScore, DisjunctionMax, Empty, Phrase, PhrasePrefix, Term}
use Rattle.query_trees.specs.declared.occur.Occur.{Occur}
use Rattle.query_trees.specs.declared.boolean_query.BooleanQuery.TheDeep.{deep-AnyQuery}

-- a query is at least as deep as what is in it
deep_below : (q : AnyQuery) → deep-AnyQuery q ≤ definitions.depth (query_of q)
deep_below (All q) = omega arith
deep_below (Empty q) = omega arith
deep_below (Term q) = omega arith
deep_below (Phrase q) = omega arith
deep_below (PhrasePrefix q) = omega arith
deep_below (Boolean q) = omega arith
deep_below (DisjunctionMax q) = omega arith
deep_below (Boost q) = omega arith
deep_below (ConstScore q) = omega arith

-- what is in a query is not deeper than it is
pub query_below : (q : AnyQuery) → max (deep-AnyQuery q) 0 ≤ definitions.depth (query_of q)
query_below q = omega (arith, deep_below q)

-- clauses are at least as deep as the queries in them
most_in_clauses : (cs : List (Occur × AnyQuery)) → most (λ c. max 0 (max (deep-AnyQuery c.1) 0)) cs ≤ definitions.clauses_depth (clauses_of cs)
most_in_clauses [] = omega arith
most_in_clauses (c ∷ cs) = omega (arith, deep_below c.1, most_in_clauses cs)

-- what is in clauses is not deeper than they are
pub clauses_below : (cs : List (Occur × AnyQuery)) → max (most (λ c. max 0 (max (deep-AnyQuery c.1) 0)) cs) 0 ≤ definitions.clauses_depth (clauses_of cs)
clauses_below cs = omega (arith, most_in_clauses cs)

-- queries in order are at least as deep as each
most_in_queries : (qs : List AnyQuery) → most deep-AnyQuery qs ≤ definitions.queries_depth (queries_of qs)
most_in_queries [] = omega arith
most_in_queries (q ∷ qs) = omega (arith, deep_below q, most_in_queries qs)

pub queries_below : (qs : List AnyQuery) → max (most deep-AnyQuery qs) 0 ≤ definitions.queries_depth (queries_of qs)
queries_below qs = omega (arith, most_in_queries qs)
