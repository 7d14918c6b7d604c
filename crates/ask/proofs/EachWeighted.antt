-- Queries of a list, each with its weight.
use Rattle.std.proofs.Common.{[], List, ap₂, map, refl, ◌∷◌, ◌≡◌}
use Rattle.definitions.specs.Query as queries
use Rattle.definitions.specs.Query.{Query}
use Rattle.query_trees.specs.Queries.{queries_of, query_of}
use Rattle.query_trees.specs.declared.any_query.AnyQuery.{AnyQuery}
use Rattle.ask.specs.Rarity.{Weights, each_weighted, own_weighted}

first : (q r : Query) (qs rs : List Query) → q ∷ qs ≡ r ∷ rs → q ≡ r
first q r qs rs e = cc

rest : (q r : Query) (qs rs : List Query) → q ∷ qs ≡ r ∷ rs → qs ≡ rs
rest q r qs rs e = cc

-- what each is made, all are made
pub each_made : (ws : Weights) (made qs : List AnyQuery) → map query_of made ≡ map (own_weighted ws) (map query_of qs) → queries_of made ≡ each_weighted ws (queries_of qs)
each_made ws [] [] e = refl
each_made ws [] (q ∷ qs) e = absurd (cc)
each_made ws (m ∷ made) [] e = absurd (cc)
each_made ws (m ∷ made) (q ∷ qs) e = ap₂ queries.query (first (query_of m) (own_weighted ws (query_of q)) (map query_of made) (map (own_weighted ws) (map query_of qs)) e) (each_made ws made qs (rest (query_of m) (own_weighted ws (query_of q)) (map query_of made) (map (own_weighted ws) (map query_of qs)) e))
