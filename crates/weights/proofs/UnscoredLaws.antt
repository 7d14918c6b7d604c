-- Where no scores are asked for: what isn't refused by some weights isn't refused by none.
use Rattle.std.proofs.Common.{[], Bool, List, None, Option, Some, add-le-add, ap, arith, false, if◌then◌else◌, le_refl, length, mul-le-mul_left, refl, suc, true, zero, zero-le, ◌*◌, ◌++◌, ◌<◌, ◌==◌, ◌^◌, ◌∷◌, ◌≡◌, ◌≤◌, ℕ}
use Rattle.std.proofs.Math.Logic.{∥∥₁_map}
use Rattle.std.proofs.lemmas.List.Sums.{sum_by-cons}
use Rattle.std.specs.List.{AllByRecursion}
use Rattle.std.specs.Prelude.{replicate}
use Rattle.std.specs.Option.{option_or}
use Rattle.definitions.proofs.Bounds.{accepted_boost, accepted_clauses, accepted_const, accepted_first_clause, accepted_first_query, accepted_more_clauses, accepted_more_queries, accepted_node, accepted_node_passes, accepted_node_score, accepted_queries, score_tests, same_choice}
use Rattle.definitions.proofs.Lists.{neither}
use Rattle.definitions.specs.Matching.{is_counted}
use Rattle.definitions.specs.Phrases.{whole_terms}
use Rattle.definitions.specs.Query.{Clauses, Queries, Query, Terms, all, boolean, boost, clause, const_score, disjunction_max, empty, no_clauses, no_queries, phrase, phrase_prefix, query, term}
use Rattle.definitions.specs.Refusing.{Test, bound, clauses_bound, clauses_fault, first_fault, is_score_too_large, node_fault, own_tests, queries_bound, queries_fault, tree_fault}
use Rattle.definitions.specs.Schema.{Schema}
use Rattle.definitions.specs.Scoring.{DontFall, IsSimilarity, max_score, natural, weight_sum}
use Rattle.definitions.specs.declared.fault.Fault.{Fault}
use Rattle.definitions.specs.declared.fault.Fault.TheVariants as faults
use Rattle.query_scorers.specs.Accepted.{IsAccepted}
use Rattle.std.proofs.lemmas.Bool.{le-ltb}
use Rattle.weights.specs.Unscored.{no_scores}

-- no weight
abbrev nothing : List ℕ → ℕ
nothing t = 0

-- ---- bounds

no_sum : (ts : Terms) → weight_sum nothing ts ≡ 0
no_sum [] = refl
no_sum (t ∷ ts) =
    let more = sum_by-cons (λ (t : ℕ × List ℕ). 0) t ts in
    let rest = no_sum ts in
    omega (arith, more, rest)

least_sum : (weight : List ℕ → ℕ) (ts : Terms) → weight_sum nothing ts ≤ weight_sum weight ts
least_sum weight ts = (let none = no_sum ts in omega (arith, none))

counted : (counts : Bool) (n most : ℕ) → n ≤ most → (if counts then n else 0) ≤ (if counts then most else 0)
counted true n most h = h
counted false n most h = zero-le

mutual
  least_bound : (weight : List ℕ → ℕ) (b : ℕ) (q : Query) → bound nothing b q ≤ bound weight b q
  least_bound weight b all = le_refl b
  least_bound weight b empty = zero-le
  least_bound weight b (term t option) = mul-le-mul_left b zero-le
  least_bound weight b (phrase terms slop) = mul-le-mul_left b (least_sum weight terms)
  least_bound weight b (phrase_prefix terms limit) = mul-le-mul_left b (same_choice (length (whole_terms terms) == 1) 1 (weight_sum nothing (whole_terms terms)) (weight_sum weight (whole_terms terms)) (least_sum weight (whole_terms terms)))
  least_bound weight b (boolean cs least) = least_clauses weight b cs
  least_bound weight b (disjunction_max qs tie) = least_queries weight b qs
  least_bound weight b (boost factor q) = least_bound weight (b * natural factor) q
  least_bound weight b (const_score constant q) = le_refl (b * natural constant)

  least_clauses : (weight : List ℕ → ℕ) (b : ℕ) (cs : Clauses) → clauses_bound nothing b cs ≤ clauses_bound weight b cs
  least_clauses weight b no_clauses = zero-le
  least_clauses weight b (clause occur q cs) = add-le-add (counted (is_counted occur) (bound nothing b q) (bound weight b q) (least_bound weight b q)) (least_clauses weight b cs)

  least_queries : (weight : List ℕ → ℕ) (b : ℕ) (qs : Queries) → queries_bound nothing b qs ≤ queries_bound weight b qs
  least_queries weight b no_queries = zero-le
  least_queries weight b (query q qs) = add-le-add (least_bound weight b q) (least_queries weight b qs)

-- ---- faults

all_pass : (ts : List Test) (failed : Bool) (fault : Fault) → first_fault ts ≡ None → failed ≡ false → first_fault (ts ++ ((failed, fault) ∷ [])) ≡ None
all_pass [] true fault h k = cc
all_pass [] false fault h k = refl
all_pass ((true, f) ∷ ts) failed fault h k = cc
all_pass ((false, f) ∷ ts) failed fault h k = all_pass ts failed fault h k

still_small : (weight : List ℕ → ℕ) (b : ℕ) (q : Query) → is_score_too_large weight b q ≡ false → is_score_too_large nothing b q ≡ false
still_small weight b q h =
    let tests = score_tests weight b q h in
    let less = least_bound weight b q in
    let most = tests.2 in
    neither _ _ (neither _ _ tests.0 (le-ltb _ _ tests.1)) (le-ltb max_score (bound nothing b q) (omega (arith, less, most)))

unscored_node : (schema : Schema) (weight : List ℕ → ℕ) (b : ℕ) (q : Query) → node_fault schema weight b q ≡ None → node_fault schema nothing b q ≡ None
unfolding node_fault
unscored_node schema weight b q h = all_pass (own_tests schema q) (is_score_too_large nothing b q) faults.ScoreTooLarge (accepted_node_passes schema weight b q h) (still_small weight b q (accepted_node_score schema weight b q h))

both_none : (o p : Option Fault) → o ≡ None → p ≡ None → option_or o p ≡ None
both_none None p h k = k
both_none (Some f) p h k = cc

mutual
  -- a tree that some weights don't refuse isn't refused where nothing weighs
  pub unscored_passes : (schema : Schema) (weight : List ℕ → ℕ) (b : ℕ) (q : Query) → tree_fault schema weight b q ≡ None → tree_fault schema nothing b q ≡ None
  unscored_passes schema weight b all h = unscored_node schema weight b all h
  unscored_passes schema weight b empty h = unscored_node schema weight b empty h
  unscored_passes schema weight b (term t option) h = unscored_node schema weight b (term t option) h
  unscored_passes schema weight b (phrase terms slop) h = unscored_node schema weight b (phrase terms slop) h
  unscored_passes schema weight b (phrase_prefix terms limit) h = unscored_node schema weight b (phrase_prefix terms limit) h
  unscored_passes schema weight b (boolean cs least) h = both_none _ _ (unscored_node schema weight b (boolean cs least) (accepted_node schema weight b (boolean cs least) h)) (unscored_clauses schema weight b cs (accepted_clauses schema weight b cs least h))
  unscored_passes schema weight b (disjunction_max qs tie) h = both_none _ _ (unscored_node schema weight b (disjunction_max qs tie) (accepted_node schema weight b (disjunction_max qs tie) h)) (unscored_queries schema weight b qs (accepted_queries schema weight b qs tie h))
  unscored_passes schema weight b (boost factor q) h = both_none _ _ (unscored_node schema weight b (boost factor q) (accepted_node schema weight b (boost factor q) h)) (unscored_passes schema weight (b * natural factor) q (accepted_boost schema weight b factor q h))
  unscored_passes schema weight b (const_score constant q) h = both_none _ _ (unscored_node schema weight b (const_score constant q) (accepted_node schema weight b (const_score constant q) h)) (unscored_passes schema weight b q (accepted_const schema weight b constant q h))

  unscored_clauses : (schema : Schema) (weight : List ℕ → ℕ) (b : ℕ) (cs : Clauses) → clauses_fault schema weight b cs ≡ None → clauses_fault schema nothing b cs ≡ None
  unscored_clauses schema weight b no_clauses h = refl
  unscored_clauses schema weight b (clause occur q cs) h = both_none _ _ (unscored_passes schema weight b q (accepted_first_clause schema weight b occur q cs h)) (unscored_clauses schema weight b cs (accepted_more_clauses schema weight b occur q cs h))

  unscored_queries : (schema : Schema) (weight : List ℕ → ℕ) (b : ℕ) (qs : Queries) → queries_fault schema weight b qs ≡ None → queries_fault schema nothing b qs ≡ None
  unscored_queries schema weight b no_queries h = refl
  unscored_queries schema weight b (query q qs) h = both_none _ _ (unscored_passes schema weight b q (accepted_first_query schema weight b q qs h)) (unscored_queries schema weight b qs (accepted_more_queries schema weight b q qs h))

-- so it is accepted
pub unscored_accepted : (weight : List ℕ → ℕ) (b : ℕ) (q : Query) → IsAccepted weight b q → IsAccepted no_scores.weight b q
unscored_accepted weight b q accepted = ∥∥₁_map accepted (λ a. (a.0, unscored_passes a.0 weight b q a.1))

-- ---- no scores are a similarity

abbrev ones : ℕ → List ℕ
ones n = replicate n 1

each_fits : (n : ℕ) → AllByRecursion (λ m. m < 2 ^ 32) (ones n)
each_fits zero = tt
each_fits (suc n) = (omega arith, each_fits n)

none_falls : (n : ℕ) → DontFall (ones n)
none_falls zero = tt
none_falls (suc zero) = tt
none_falls (suc (suc n)) = (le_refl 1, none_falls (suc n))

replicated : (n : ℕ) → length (ones n) ≡ n
replicated zero = refl
replicated (suc n) = ap suc (replicated n)

pub unscored_similarity : IsSimilarity no_scores
unscored_similarity = record { weights = λ t. zero-le; norm_for_each = replicated 256; norms_fit = each_fits 256; norms_rise = none_falls 256 }
