-- Queries as the definitions have them.
use Rattle.std.specs.Prelude.{[], ◌∷◌, List, ℕ}
use Rattle.definitions.specs.Query as definitions
use Rattle.definitions.specs.Schema.{with_freqs}
use Rattle.query_trees.specs.declared.any_query.AnyQuery.{AnyQuery}
use Rattle.query_trees.specs.declared.any_query.AnyQuery.TheVariants.{All, Boolean, Boost, ConstScore, DisjunctionMax, Empty, Phrase, PhrasePrefix, Term}
use Rattle.query_trees.specs.declared.occur.Occur.{Occur}
use Rattle.query_trees.specs.declared.occur.Occur.TheVariants.{Must, MustNot, Should}

-- what a clause asks of documents
abbrev pub occur_of : Occur → definitions.Occur
occur_of Should = definitions.should
occur_of Must = definitions.must
occur_of MustNot = definitions.must_not

-- a query of any form
abbrev pub query_of : AnyQuery → definitions.Query
query_of (All q) = definitions.all
query_of (Empty q) = definitions.empty
query_of (Term q) = definitions.term q.0 q.1
query_of (Phrase q) = definitions.phrase q.0 q.1
query_of (PhrasePrefix q) = definitions.phrase_prefix q.0 q.1
query_of (Boolean q) = definitions.boolean q.0 q.1
query_of (DisjunctionMax q) = definitions.disjunction_max q.0 q.1
query_of (Boost q) = definitions.boost q.1 q.0
query_of (ConstScore q) = definitions.const_score q.1 q.0

-- clauses, in order
abbrev pub clauses_of : List (Occur × AnyQuery) → definitions.Clauses
clauses_of [] = definitions.no_clauses
clauses_of (c ∷ cs) = definitions.clause (occur_of c.0) (query_of c.1) (clauses_of cs)

-- queries, in order
abbrev pub queries_of : List AnyQuery → definitions.Queries
queries_of [] = definitions.no_queries
queries_of (q ∷ qs) = definitions.query (query_of q) (queries_of qs)

-- a clause for each query, all of which ask the same
abbrev pub each_asks : definitions.Occur → definitions.Queries → definitions.Clauses
each_asks occur definitions.no_queries = definitions.no_clauses
each_asks occur (definitions.query q qs) = definitions.clause occur q (each_asks occur qs)

-- the queries for terms, whose counts are read
abbrev pub for_each_term : List (List ℕ) → definitions.Queries
for_each_term [] = definitions.no_queries
for_each_term (t ∷ ts) = definitions.query (definitions.term t with_freqs) (for_each_term ts)
