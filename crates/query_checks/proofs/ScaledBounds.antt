-- Bounds: what one tells that may be out of range, and how a boost scales it.
use Rattle.std.proofs.Common.{Bool, None, Option, Some, ap, arith, false, if◌then◌else◌, inl, inr, le-ltb, length, lt-ltb, nat_lt, suc, sym, true, ◌*◌, ◌+◌, ◌<◌, ◌==◌, ◌∙◌, ◌≡◌, ◌≤◌, ◌⊎◌, List, ℕ, ℤ}
use Rattle.std.proofs.Math.Nat.{mul-add, mul-le-mul_right, mul-one, mul-zero, mul_assoc, one-mul, zero-add}
use Rattle.std.proofs.lemmas.Bool.Decides.{leb_tells}
use Rattle.definitions.specs.Matching.{is_counted}
use Rattle.definitions.specs.Phrases.{whole_terms}
use Rattle.definitions.specs.Query.{Clauses, Queries, Query, all, boolean, boost, clause, const_score, disjunction_max, empty, no_clauses, no_queries, phrase, phrase_prefix, query, term}
use Rattle.definitions.specs.Refusing.{bound, clauses_bound, queries_bound}
use Rattle.definitions.specs.Scoring.{max_score, natural, weight_sum}
use Rattle.query_checks.specs.Ranges.{in_range}

-- one that is within
pub within_range : (n : ℕ) → n ≤ max_score → Some n ≡ in_range n
within_range n h = ap (λ b. if b then None else Some n) (sym (le-ltb max_score n h))

-- one that is above
pub above_range : (n : ℕ) → max_score < n → None ≡ in_range n
above_range n h = ap (λ b. if b then None else Some n) (sym (lt-ltb max_score n h))

-- ---- a boost scales the bound

scaled : (b n : ℕ) → b * n ≡ b * (1 * n)
scaled b n = ap (λ m. b * m) (sym (one-mul n))

sum_scaled : (counted : Bool) (b x y r s : ℕ) → x ≡ b * y → r ≡ b * s → (if counted then x else 0) + r ≡ b * ((if counted then y else 0) + s)
sum_scaled true b x y r s e f = ap (λ n. n + r) e ∙ ap (λ n. b * y + n) f ∙ sym (mul-add b y s)
sum_scaled false b x y r s e f = zero-add r ∙ f ∙ ap (λ n. b * n) (sym (zero-add s))

mutual
  pub linear : (weight : List ℕ → ℕ) (b : ℕ) (q : Query) → bound weight b q ≡ b * bound weight 1 q
  linear weight b all = sym (mul-one b)
  linear weight b empty = sym (mul-zero b)
  linear weight b (term t option) = scaled b (weight t)
  linear weight b (phrase terms slop) = scaled b (weight_sum weight terms)
  linear weight b (phrase_prefix terms limit) = scaled b (if length (whole_terms terms) == 1 then 1 else weight_sum weight (whole_terms terms))
  linear weight b (boolean cs least) = clauses_linear weight b cs
  linear weight b (disjunction_max qs tie) = queries_linear weight b qs
  linear weight b (boost factor q) =
      let f = natural factor in
      linear weight (b * f) q
      ∙ mul_assoc b f (bound weight 1 q)
      ∙ ap (λ n. b * (n * bound weight 1 q)) (sym (one-mul f))
      ∙ ap (λ n. b * n) (sym (linear weight (1 * f) q))
  linear weight b (const_score constant q) = scaled b (natural constant)

  clauses_linear : (weight : List ℕ → ℕ) (b : ℕ) (cs : Clauses) → clauses_bound weight b cs ≡ b * clauses_bound weight 1 cs
  clauses_linear weight b no_clauses = sym (mul-zero b)
  clauses_linear weight b (clause occur q cs) = sum_scaled (is_counted occur) b (bound weight b q) (bound weight 1 q) (clauses_bound weight b cs) (clauses_bound weight 1 cs) (linear weight b q) (clauses_linear weight b cs)

  queries_linear : (weight : List ℕ → ℕ) (b : ℕ) (qs : Queries) → queries_bound weight b qs ≡ b * queries_bound weight 1 qs
  queries_linear weight b no_queries = sym (mul-zero b)
  queries_linear weight b (query q qs) = sum_scaled true b (bound weight b q) (bound weight 1 q) (queries_bound weight b qs) (queries_bound weight 1 qs) (linear weight b q) (queries_linear weight b qs)

-- the bound under a boost, from the one without
pub boosted : (weight : List ℕ → ℕ) (b : ℕ) (q : Query) → in_range (b * bound weight 1 q) ≡ in_range (bound weight b q)
boosted weight b q = ap in_range (sym (linear weight b q))

-- the bound of a boost, from that of its query
pub boost_bound : (weight : List ℕ → ℕ) (factor : ℤ) (q : Query) → in_range (natural factor * bound weight 1 q) ≡ in_range (bound weight 1 (boost factor q))
boost_bound weight factor q = ap in_range (ap (λ n. n * bound weight 1 q) (sym (one-mul (natural factor))) ∙ sym (linear weight (1 * natural factor) q))

-- ---- a number times a bound

-- a bound that is there is the number, and it is within
pub found_range : (n m : ℕ) → Some n ≡ in_range m → n ≡ m
found_range n m h = go (nat_lt max_score m) h
  where
    go : (b : Bool) → Some n ≡ (if b then None else Some m) → n ≡ m
    go true h = cc
    go false h = cc

-- one that isn't there is above
lost_range : (m : ℕ) → None ≡ in_range m → max_score < m
lost_range m h = go (leb_tells (suc max_score) m) h
  where
    go : ((nat_lt max_score m ≡ true) × (max_score < m)) ⊎ ((nat_lt max_score m ≡ false) × (m < suc max_score)) → None ≡ in_range m → max_score < m
    go (inl l) h = l.1
    go (inr l) h = absurd (none_not (ap (λ b. if b then None else Some m) l.0) h)
      where
        none_not : in_range m ≡ Some m → None ≡ in_range m → ⊥
        none_not a b = let c = b ∙ a in cc

-- what is above stays above
pub times_above : (factor m : ℕ) → 0 < factor → None ≡ in_range m → None ≡ in_range (factor * m)
times_above factor m some h = let l = lost_range m h in above_range (factor * m) (lt_times factor m some l)
  where
    lt_times : (factor m : ℕ) → 0 < factor → max_score < m → max_score < factor * m
    lt_times factor m some l = let k : 1 * m ≤ factor * m = mul-le-mul_right m some in omega (arith, one-mul m)

pub times_found : (factor n m : ℕ) (o : Option ℕ) → o ≡ in_range (factor * n) → Some n ≡ in_range m → o ≡ in_range (factor * m)
times_found factor n m o same h = same ∙ ap (λ k. in_range (factor * k)) (found_range n m h)
