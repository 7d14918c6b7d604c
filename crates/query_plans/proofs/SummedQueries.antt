-- The best of queries where the other scores count whole.
use Rattle.std.proofs.Common.{ap, ap₂, arith, length, max, refl, subst, sym, true, ◌&&◌, ◌*◌, ◌+◌, ◌-◌, ◌/◌, ◌++◌, ◌||◌, ◌∙◌, ◌∷◌, ◌≡◌, ◌≤◌, [], Bool, List, if◌then◌else◌, pos, ℕ}
use Rattle.std.specs.Prelude.{sum}
use Rattle.std.proofs.Math.Nat.{mul-one}
use Rattle.std.proofs.lemmas.List.Sums.{sum_by-cons}
use Rattle.definitions.specs.Analyzers.{Analyzer}
use Rattle.definitions.specs.Matching.{matches, some_match}
use Rattle.definitions.specs.Query as definitions
use Rattle.definitions.specs.Query.{Occur, Queries, Query}
use Rattle.definitions.specs.Schema.{Schema}
use Rattle.definitions.specs.Scoring.{Similarity, best_and_tie, clause_scores, greatest_of, query_scores, score}
use Rattle.definitions.specs.Values.{Document}
use Rattle.query_plans.proofs.ClausePlans.{both_plans, one_plan, then_plans}
use Rattle.query_plans.proofs.JoinedClauses.{shoulds_match, some_matches}
use Rattle.query_plans.specs.Plans.{ArePlans, IsPlan, each_asking, joined}
use Rattle.query_trees.specs.Queries.{each_asks, queries_of, query_of}
use Rattle.query_trees.specs.declared.any_query.AnyQuery.{AnyQuery}

-- each is asked for as it is
asked_alike : (occur : Occur) (qs : Queries) → each_asking occur (each_asks occur qs) ≡ each_asks occur qs
asked_alike occur definitions.no_queries = refl
asked_alike occur (definitions.query q qs) = ap (definitions.clause occur q) (asked_alike occur qs)

some_same : (schema : Schema) (analyze : Analyzer) (doc : Document) (qs : Queries) → some_matches schema analyze doc (each_asks definitions.should qs) ≡ some_match schema analyze doc qs
some_same schema analyze doc definitions.no_queries = refl
some_same schema analyze doc (definitions.query q qs) = ap (λ x. matches schema analyze doc q || x) (some_same schema analyze doc qs)

scores_same : (schema : Schema) (analyze : Analyzer) (sim : Similarity) (doc : Document) (b : ℕ) (qs : Queries) → clause_scores schema analyze sim doc b (each_asks definitions.should qs) ≡ query_scores schema analyze sim doc b qs
scores_same schema analyze sim doc b definitions.no_queries = refl
scores_same schema analyze sim doc b (definitions.query q qs) = ap (λ xs. (if matches schema analyze doc q then score schema analyze sim doc b q ∷ [] else []) ++ xs) (scores_same schema analyze sim doc b qs)

-- no number is above the sum
greatest_small : (xs : List ℕ) → greatest_of xs ≤ sum xs
greatest_small [] = omega arith
greatest_small (x ∷ xs) = let more = sum_by-cons (λ n. n) x xs in let rest = greatest_small xs in omega (arith, more, rest)

-- the whole of the others
whole_tie : (xs : List ℕ) → best_and_tie 1000 xs ≡ sum xs
whole_tie xs = let few = greatest_small xs in omega (arith, few)

-- a bool of which one has to match scores as the best does where the others count whole
pub sum_plan : (qs : Queries) → IsPlan 1 (definitions.disjunction_max qs (pos 1000)) (definitions.boolean (each_asks definitions.should qs) 1)
sum_plan qs = record {
  same_matches = λ schema analyze doc.
      ap (λ cs. matches schema analyze doc (definitions.boolean cs 1)) (sym (asked_alike definitions.should qs))
      ∙ (shoulds_match schema analyze doc 1 (each_asks definitions.should qs) (omega arith)
      ∙ some_same schema analyze doc qs);
  same_scores = λ schema analyze sim doc b holds.
      ap sum (scores_same schema analyze sim doc b qs)
      ∙ (sym (whole_tie (query_scores schema analyze sim doc b qs))
      ∙ ap (λ n. best_and_tie 1000 (query_scores schema analyze sim doc n qs)) (sym (mul-one b)));
}

asks_joined : (occur : Occur) (qs : List AnyQuery) (q : AnyQuery) → each_asks occur (queries_of (qs ++ q ∷ [])) ≡ joined (each_asks occur (queries_of qs)) (definitions.clause occur (query_of q) definitions.no_clauses)
asks_joined occur [] q = refl
asks_joined occur (p ∷ qs) q = ap (definitions.clause occur (query_of p)) (asks_joined occur qs q)

-- one query more
pub more_sums : (boost : ℕ) (before now : List AnyQuery) (ds next : definitions.Clauses) (q : AnyQuery) (p : Query) → now ≡ before ++ q ∷ [] → ArePlans 1 boost (each_asks definitions.should (queries_of before)) ds → IsPlan boost (query_of q) p → ArePlans 1 1 (joined ds (definitions.clause definitions.should p definitions.no_clauses)) next → ArePlans 1 boost (each_asks definitions.should (queries_of now)) next
more_sums boost before now ds next q p is plans plan rest =
    let one = one_plan 1 boost definitions.should (query_of q) p plan in
    subst (λ xs. ArePlans 1 boost xs next) (sym (ap (λ xs. each_asks definitions.should (queries_of xs)) is ∙ asks_joined definitions.should before q))
    (then_plans 1 boost _ _ next (both_plans 1 boost (each_asks definitions.should (queries_of before)) ds (definitions.clause definitions.should (query_of q) definitions.no_clauses) (definitions.clause definitions.should p definitions.no_clauses) plans one) rest)
