-- Some queries as one, by how many there are.
use Rattle.std.proofs.Common.{[], Err, Ok, ap, arith, get_or, length, map, refl, ◌<◌, ◌≡◌, ◌∷◌, List, ℤ}
use Rattle.definitions.specs.Query as queries
use Rattle.query_text.specs.Answers.{one_from, in_order}
use Rattle.query_text.specs.declared.refusal.Reason.{Reason}
use Rattle.query_trees.specs.Queries.{queries_of, query_of}
use Rattle.query_trees.specs.declared.any_query.AnyQuery.{AnyQuery}

-- queries in order
pub ordered : (qs : List AnyQuery) → in_order (map query_of qs) ≡ queries_of qs
ordered [] = refl
ordered (q ∷ qs) = ap (queries.query (query_of q)) (ordered qs)

-- several queries
pub several : (tie : ℤ) (reason : Reason) (qs : List AnyQuery) → 1 < length qs → one_from tie reason (map query_of qs) ≡ Ok (queries.disjunction_max (queries_of qs) tie)
several tie reason [] h = absurd (omega (arith, h))
several tie reason (q ∷ []) h = absurd (omega (arith, h))
several tie reason (q ∷ r ∷ qs) h = ap (λ l. Ok (queries.disjunction_max l tie)) (ordered (q ∷ r ∷ qs))

-- one query
pub single : (tie : ℤ) (reason : Reason) (qs : List AnyQuery) (q : AnyQuery) → length qs ≡ 1 → q ≡ get_or qs 0 q → one_from tie reason (map query_of qs) ≡ Ok (query_of q)
single tie reason [] q h e = absurd (omega (arith, h))
single tie reason (p ∷ []) q h e = cc
single tie reason (p ∷ r ∷ qs) q h e = absurd (omega (arith, h))

-- none
pub nothing : (tie : ℤ) (reason : Reason) (qs : List AnyQuery) → length qs ≡ 0 → one_from tie reason (map query_of qs) ≡ Err reason
nothing tie reason [] h = refl
nothing tie reason (q ∷ qs) h = absurd (omega (arith, h))
