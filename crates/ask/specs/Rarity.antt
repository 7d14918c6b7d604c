-- Queries of words and phrases, in each field with the weight of the rarest word there.
use Rattle.std.specs.Prelude.{[], ◌∷◌, Bool, List, Ok, bytes_eq, if◌then◌else◌, max, pos, ℕ}
use Rattle.definitions.specs.Query as queries
use Rattle.definitions.specs.Query.{Queries, Query}
use Rattle.definitions.specs.QueryTerms.{query_terms}
use Rattle.query_text.specs.Reading.{Vocabulary}
use Rattle.query_text.specs.Refusals.{◌>>=◌}

-- terms with their weights
abbrev pub Weights : Type 0
Weights = List (List ℕ × ℕ)

-- what a term weighs: 1 where nothing is said of it
abbrev pub weight_in : Weights → List ℕ → ℕ
weight_in [] t = 1
weight_in (w ∷ ws) t = if bytes_eq w.0 t then w.1 else weight_in ws t

-- what the heaviest of some terms weighs, 1 at least
abbrev pub heaviest : Weights → List (List ℕ × Bool) → ℕ
heaviest ws [] = 1
heaviest ws (t ∷ ts) = max (weight_in ws t.0) (heaviest ws ts)

-- a query with the weight of the heaviest term that it reads
abbrev pub own_weighted : Weights → Query → Query
own_weighted ws q = queries.boost (pos (heaviest ws (query_terms q))) q

-- each of some queries with its own
abbrev pub each_weighted : Weights → Queries → Queries
each_weighted ws queries.no_queries = queries.no_queries
each_weighted ws (queries.query q qs) = queries.query (own_weighted ws q) (each_weighted ws qs)

-- of the best of several queries, one for each field, each has its own weight
abbrev pub weighted : Weights → Query → Query
weighted ws (queries.disjunction_max qs tie) = queries.disjunction_max (each_weighted ws qs) tie
weighted ws q = own_weighted ws q

-- words that weigh
abbrev pub weighted_words : Weights → Vocabulary → Vocabulary
weighted_words ws words phrase = words phrase >>= (λ q. Ok (weighted ws q))
