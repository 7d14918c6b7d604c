-- What stands for a query, by the query's form.
use Rattle.std.proofs.Common.{ap, ap₂, arith, max, refl, subst, sym, true, false, ◌*◌, ◌+◌, ◌-◌, ◌/◌, ◌++◌, ◌∙◌, ◌∷◌, ◌≡◌, ◌||◌, [], Bool, List, if◌then◌else◌, ℕ, ℤ}
use Rattle.std.specs.Prelude.{sum}
use Rattle.std.proofs.Math.Nat.{mul_assoc, mul-one}
use Rattle.std.proofs.lemmas.List.Sums.{sum_by-cons}
use Rattle.definitions.specs.Analyzers.{Analyzer}
use Rattle.definitions.specs.Matching.{matches, some_match}
use Rattle.definitions.specs.Query as definitions
use Rattle.definitions.specs.Query.{Queries, Query}
use Rattle.definitions.specs.Schema.{Schema}
use Rattle.definitions.specs.Scoring.{Similarity, best_and_tie, natural, query_scores, score}
use Rattle.definitions.specs.Values.{Document}
use Rattle.query_plans.specs.Plans.{EachPlan, IsPlan}
use Rattle.query_trees.specs.Queries.{queries_of, query_of}
use Rattle.query_trees.specs.declared.any_query.AnyQuery.{AnyQuery}

-- a query stands for itself
pub itself : (q : Query) → IsPlan 1 q q
itself q = record {
  same_matches = λ schema analyze doc. refl;
  same_scores = λ schema analyze sim doc b holds. ap (λ n. score schema analyze sim doc n q) (sym (mul-one b));
}

-- what stands for a plan stands for what that stands for
pub further : (boost : ℕ) (q p r : Query) → IsPlan boost q p → IsPlan 1 p r → IsPlan boost q r
further boost q p r first second = record {
  same_matches = λ schema analyze doc. second.same_matches schema analyze doc ∙ first.same_matches schema analyze doc;
  same_scores = λ schema analyze sim doc b holds.
      second.same_scores schema analyze sim doc b (first.same_matches schema analyze doc ∙ holds)
      ∙ (ap (λ n. score schema analyze sim doc n p) (mul-one b) ∙ first.same_scores schema analyze sim doc b holds);
}

-- a plan of a plan under a boost
pub under : (boost : ℕ) (q p r : Query) → IsPlan 1 q p → IsPlan boost p r → IsPlan boost q r
under boost q p r first second = record {
  same_matches = λ schema analyze doc. second.same_matches schema analyze doc ∙ first.same_matches schema analyze doc;
  same_scores = λ schema analyze sim doc b holds.
      second.same_scores schema analyze sim doc b (first.same_matches schema analyze doc ∙ holds)
      ∙ (first.same_scores schema analyze sim doc (b * boost) holds ∙ ap (λ n. score schema analyze sim doc n q) (mul-one (b * boost)));
}

-- a query with a boost above it
pub boosted_plan : (boost : ℕ) (factor : ℤ) (p : Query) → natural factor ≡ boost → IsPlan boost p (definitions.boost factor p)
boosted_plan boost factor p is = record {
  same_matches = λ schema analyze doc. refl;
  same_scores = λ schema analyze sim doc b holds. ap (λ n. score schema analyze sim doc (b * n) p) is;
}

-- where the product of boosts goes down
pub product_plan : (boost product : ℕ) (factor : ℤ) (q p : Query) → product ≡ boost * natural factor → IsPlan product q p → IsPlan boost (definitions.boost factor q) p
product_plan boost product factor q p is plan = record {
  same_matches = plan.same_matches;
  same_scores = λ schema analyze sim doc b holds.
      plan.same_scores schema analyze sim doc b holds
      ∙ ap (λ n. score schema analyze sim doc n q) (ap (λ n. b * n) is ∙ sym (mul_assoc b boost (natural factor)));
}

-- where a boost stays above
pub boost_over : (factor : ℤ) (q p : Query) → IsPlan 1 q p → IsPlan 1 (definitions.boost factor q) (definitions.boost factor p)
boost_over factor q p plan = record {
  same_matches = plan.same_matches;
  same_scores = λ schema analyze sim doc b holds.
      plan.same_scores schema analyze sim doc (b * natural factor) holds
      ∙ ap (λ n. score schema analyze sim doc n q) (mul-one (b * natural factor) ∙ ap (λ n. n * natural factor) (sym (mul-one b)));
}

-- a constant needs the matches alone
pub constant_over : (constant : ℤ) (q p : Query) → IsPlan 1 q p → IsPlan 1 (definitions.const_score constant q) (definitions.const_score constant p)
constant_over constant q p plan = record {
  same_matches = plan.same_matches;
  same_scores = λ schema analyze sim doc b holds. ap (λ n. n * natural constant) (sym (mul-one b));
}

-- ---- the best of several

pub one_sum : (s : ℕ) → sum (s ∷ []) ≡ s
one_sum s = let one : s + 0 ≡ s = omega arith in sum_by-cons (λ n. n) s [] ∙ one

best_one : (tie s : ℕ) → best_and_tie tie (s ∷ []) ≡ s
best_one tie s =
    let top : max s 0 ≡ s = omega arith in
    let others : s - s ≡ 0 = omega arith in
    let times : 0 * tie ≡ 0 = omega arith in
    let same : s + 0 ≡ s = omega arith in
    ap₂ (λ best all. best + (all - best) * tie / 1000) top (one_sum s)
    ∙ (ap (λ n. s + n * tie / 1000) others ∙ (ap (λ n. s + n / 1000) times ∙ same))

-- one and no other
pub best_of_one : (boost : ℕ) (tie : ℤ) (q p : Query) → IsPlan boost q p → IsPlan boost (definitions.disjunction_max (definitions.query q definitions.no_queries) tie) p
best_of_one boost tie q p plan = record {
  same_matches = λ schema analyze doc. plan.same_matches schema analyze doc ∙ alone (matches schema analyze doc q);
  same_scores = λ schema analyze sim doc b holds.
      let met : matches schema analyze doc q ≡ true = alone (matches schema analyze doc q) ∙ holds in
      plan.same_scores schema analyze sim doc b met
      ∙ (sym (best_one (natural tie) (score schema analyze sim doc (b * boost) q))
      ∙ ap (λ m. best_and_tie (natural tie) ((if m then score schema analyze sim doc (b * boost) q ∷ [] else []) ++ [])) (sym met));
}
  where
    alone : (m : Bool) → m ≡ (m || false)
    alone true = refl
    alone false = refl

-- the same matches, and the scores of those that match
same_some : (boost : ℕ) (qs ps : Queries) → EachPlan boost qs ps → (schema : Schema) (analyze : Analyzer) (doc : Document) → some_match schema analyze doc ps ≡ some_match schema analyze doc qs
same_some boost definitions.no_queries definitions.no_queries each schema analyze doc = refl
same_some boost definitions.no_queries (definitions.query p ps) each schema analyze doc = absurd each
same_some boost (definitions.query q qs) definitions.no_queries each schema analyze doc = absurd each
same_some boost (definitions.query q qs) (definitions.query p ps) each schema analyze doc = ap₂ (λ m n. m || n) (each.0.same_matches schema analyze doc) (same_some boost qs ps each.1 schema analyze doc)

pub score_if_met : (boost : ℕ) (q p : Query) → IsPlan boost q p → (schema : Schema) (analyze : Analyzer) (sim : Similarity) (doc : Document) (b : ℕ) → (if matches schema analyze doc p then score schema analyze sim doc b p ∷ [] else []) ≡ (if matches schema analyze doc q then score schema analyze sim doc (b * boost) q ∷ [] else [])
score_if_met boost q p plan schema analyze sim doc b =
    ap (λ m. if m then score schema analyze sim doc b p ∷ [] else []) (plan.same_matches schema analyze doc)
    ∙ by_match (matches schema analyze doc q) (plan.same_scores schema analyze sim doc b)
  where
    by_match : (m : Bool) → (m ≡ true → score schema analyze sim doc b p ≡ score schema analyze sim doc (b * boost) q) → (if m then score schema analyze sim doc b p ∷ [] else []) ≡ (if m then score schema analyze sim doc (b * boost) q ∷ [] else [])
    by_match true same = ap (λ n. n ∷ []) (same refl)
    by_match false same = refl

same_each : (boost : ℕ) (qs ps : Queries) → EachPlan boost qs ps → (schema : Schema) (analyze : Analyzer) (sim : Similarity) (doc : Document) (b : ℕ) → query_scores schema analyze sim doc b ps ≡ query_scores schema analyze sim doc (b * boost) qs
same_each boost definitions.no_queries definitions.no_queries each schema analyze sim doc b = refl
same_each boost definitions.no_queries (definitions.query p ps) each schema analyze sim doc b = absurd each
same_each boost (definitions.query q qs) definitions.no_queries each schema analyze sim doc b = absurd each
same_each boost (definitions.query q qs) (definitions.query p ps) each schema analyze sim doc b = ap₂ (λ xs ys. xs ++ ys) (score_if_met boost q p each.0 schema analyze sim doc b) (same_each boost qs ps each.1 schema analyze sim doc b)

-- the best of plans
pub best_plan : (boost : ℕ) (tie : ℤ) (qs ps : Queries) → EachPlan boost qs ps → IsPlan boost (definitions.disjunction_max qs tie) (definitions.disjunction_max ps tie)
best_plan boost tie qs ps each = record {
  same_matches = same_some boost qs ps each;
  same_scores = λ schema analyze sim doc b holds. ap (best_and_tie (natural tie)) (same_each boost qs ps each schema analyze sim doc b);
}

-- ---- queries one by one

more_queries : (boost : ℕ) (qs ps : List AnyQuery) (q p : AnyQuery) → EachPlan boost (queries_of qs) (queries_of ps) → IsPlan boost (query_of q) (query_of p) → EachPlan boost (queries_of (qs ++ q ∷ [])) (queries_of (ps ++ p ∷ []))
more_queries boost [] [] q p each plan = (plan, tt)
more_queries boost [] (p2 ∷ ps) q p each plan = absurd each
more_queries boost (q2 ∷ qs) [] q p each plan = absurd each
more_queries boost (q2 ∷ qs) (p2 ∷ ps) q p each plan = (each.0, more_queries boost qs ps q p each.1 plan)

-- one query more
pub more_each : (boost : ℕ) (before all ps next : List AnyQuery) (q p : AnyQuery) → all ≡ before ++ q ∷ [] → next ≡ ps ++ p ∷ [] → EachPlan boost (queries_of before) (queries_of ps) → IsPlan boost (query_of q) (query_of p) → EachPlan boost (queries_of all) (queries_of next)
more_each boost before all ps next q p is are each plan =
    subst (λ xs. EachPlan boost (queries_of all) (queries_of xs)) (sym are)
    (subst (λ xs. EachPlan boost (queries_of xs) (queries_of (ps ++ p ∷ []))) (sym is) (more_queries boost before ps q p each plan))
