-- Bounds: what it means that a query isn't refused, and that its scores are not above its bound.
use Rattle.std.proofs.Common.{[], ◌&&◌, ◌*◌, ◌++◌, ◌+◌, ◌-◌, ◌==◌, ◌||◌, ◌∷◌, ◌≡◌, ◌≤◌, Bool, List, None, Option, Some, add-le-add, arith, false, if◌then◌else◌, le_refl, le_trans, length, mul-le-mul_left, mul_comm, nat_lt, negsuc, pos, refl, sum, sym, true, zero-add, zero-le, ℕ, ℤ, ◌<◌, option_map, slice_get, nat_abs, ◌≤ℤ◌}
use Rattle.definitions.specs.Analyzers.{Analyzer}
use Rattle.definitions.specs.Matching.{is_counted, matches}
use Rattle.definitions.specs.Phrases.{phrase_count, whole_terms}
use Rattle.definitions.specs.Query.{Clauses, Occur, Queries, Query, Terms, all, boolean, boost, clause, const_score, depth, disjunction_max, empty, no_clauses, no_queries, phrase, phrase_prefix, query, term}
use Rattle.definitions.specs.Refusing.{Test, bound, clauses_bound, clauses_fault, first_fault, is_bad_factor, is_outside, is_score_too_large, max_depth, node_fault, own_tests, product, queries_bound, queries_fault, refusal, tree_fault}
use Rattle.std.specs.Option.{option_or}
use Rattle.definitions.specs.Schema.{Schema, Entry}
use Rattle.definitions.specs.Scoring.{Similarity, best_and_tie, clause_scores, greatest_of, max_score, natural, part, phrase_score, prefix_score, query_count, query_scores, score, weight_sum}
use Rattle.definitions.specs.Values.{Document}
use Rattle.std.proofs.Math.Nat.{div-le_of_le-mul, max-le}
use Rattle.std.proofs.lemmas.Bool.{or_parts, ltb-false}
use Rattle.std.proofs.lemmas.List.Sums.{sum_by-cons}
use Rattle.definitions.specs.declared.fault.Fault.{Fault}
use Rattle.definitions.specs.declared.fault.Fault.TheVariants as faults
use Rattle.std.proofs.lemmas.Int.{ints}
use Rattle.std.proofs.lemmas.Option.{none-some, slice_get_within}
use Rattle.std.specs.Cmp.{nat_cmp_is}
use Rattle.std.specs.Ordering.{nat_cmp}
use Rattle.std.specs.declared.cmp.Ordering.TheVariants.{Equal}

-- ---- no fault

-- where the first fault or else the second is none, both are none
pub first_is_none : (o p : Option Fault) → option_or o p ≡ None → o ≡ None
first_is_none None p h = refl
first_is_none (Some fault) p h = h

-- the second is none too
pub second_is_none : (o p : Option Fault) → option_or o p ≡ None → p ≡ None
second_is_none None p h = h
second_is_none (Some fault) p h = cc

-- the first of the tests passes where none fails
pub head_passes : (failed : Bool) (fault : Fault) (ts : List Test) → first_fault ((failed, fault) ∷ ts) ≡ None → failed ≡ false
head_passes true fault ts h = cc
head_passes false fault ts h = refl

-- so do those after it
pub tail_passes : (failed : Bool) (fault : Fault) (ts : List Test) → first_fault ((failed, fault) ∷ ts) ≡ None → first_fault ts ≡ None
tail_passes true fault ts h = cc
tail_passes false fault ts h = h

-- the last of the tests passes where none fails
pub last_passes : (ts : List Test) (failed : Bool) (fault : Fault) → first_fault (ts ++ ((failed, fault) ∷ [])) ≡ None → failed ≡ false
last_passes [] failed fault h = head_passes failed fault [] h
last_passes (t ∷ ts) failed fault h = last_passes ts failed fault (tail_passes t.0 t.1 (ts ++ ((failed, fault) ∷ [])) h)

-- so do those before it
pub front_passes : (ts us : List Test) → first_fault (ts ++ us) ≡ None → first_fault ts ≡ None
front_passes [] us h = refl
front_passes ((true, fault) ∷ ts) us h = cc
front_passes ((false, fault) ∷ ts) us h = front_passes ts us h

-- ---- accepted nodes

-- an accepted node passes the tests that aren't about its score
pub accepted_node_passes : (schema : Schema) (weight : List ℕ → ℕ) (b : ℕ) (q : Query) → node_fault schema weight b q ≡ None → first_fault (own_tests schema q) ≡ None
unfolding node_fault
accepted_node_passes schema weight b q h = front_passes (own_tests schema q) ((is_score_too_large weight b q, faults.ScoreTooLarge) ∷ []) h

-- its score is not too large
pub accepted_node_score : (schema : Schema) (weight : List ℕ → ℕ) (b : ℕ) (q : Query) → node_fault schema weight b q ≡ None → is_score_too_large weight b q ≡ false
unfolding node_fault
accepted_node_score schema weight b q h = last_passes (own_tests schema q) (is_score_too_large weight b q) faults.ScoreTooLarge h

-- the root of an accepted tree is accepted
pub accepted_node : (schema : Schema) (weight : List ℕ → ℕ) (b : ℕ) (q : Query) → tree_fault schema weight b q ≡ None → node_fault schema weight b q ≡ None
accepted_node schema weight b all h = h
accepted_node schema weight b empty h = h
accepted_node schema weight b (term t option) h = h
accepted_node schema weight b (phrase terms slop) h = h
accepted_node schema weight b (phrase_prefix terms limit) h = h
accepted_node schema weight b (boolean cs least) h = first_is_none _ _ h
accepted_node schema weight b (disjunction_max qs tie) h = first_is_none _ _ h
accepted_node schema weight b (boost factor q) h = first_is_none _ _ h
accepted_node schema weight b (const_score constant q) h = first_is_none _ _ h

-- an accepted tree passes the tests of its root that aren't about its score
pub accepted_passes : (schema : Schema) (weight : List ℕ → ℕ) (b : ℕ) (q : Query) → tree_fault schema weight b q ≡ None → first_fault (own_tests schema q) ≡ None
accepted_passes schema weight b q h = accepted_node_passes schema weight b q (accepted_node schema weight b q h)

-- the parts of the test of a score
pub score_tests : (weight : List ℕ → ℕ) (b : ℕ) (q : Query) → is_score_too_large weight b q ≡ false → (is_bad_factor q ≡ false) × (product b q ≤ max_score) × (bound weight b q ≤ max_score)
score_tests weight b q h =
    let outer = or_parts (is_bad_factor q || nat_lt max_score (product b q)) (nat_lt max_score (bound weight b q)) h in
    let inner = or_parts (is_bad_factor q) (nat_lt max_score (product b q)) outer.0 in
    (inner.0, ltb-false _ _ inner.1, ltb-false _ _ outer.1)

-- an accepted tree passes these parts at its root
pub accepted_score_tests : (schema : Schema) (weight : List ℕ → ℕ) (b : ℕ) (q : Query) → tree_fault schema weight b q ≡ None → (is_bad_factor q ≡ false) × (product b q ≤ max_score) × (bound weight b q ≤ max_score)
accepted_score_tests schema weight b q h = score_tests weight b q (accepted_node_score schema weight b q (accepted_node schema weight b q h))

-- no bound of an accepted tree is above the greatest score
pub accepted_fits : (schema : Schema) (weight : List ℕ → ℕ) (b : ℕ) (q : Query) → tree_fault schema weight b q ≡ None → bound weight b q ≤ max_score
accepted_fits schema weight b q h = (accepted_score_tests schema weight b q h).2

-- nor is the product of its boosts
pub accepted_product : (schema : Schema) (weight : List ℕ → ℕ) (b : ℕ) (q : Query) → tree_fault schema weight b q ≡ None → product b q ≤ max_score
accepted_product schema weight b q h = (accepted_score_tests schema weight b q h).1

-- a number that isn't outside is from 0 to the greatest
pub inside : (greatest : ℕ) (z : ℤ) → is_outside greatest z ≡ false → (z ≡ pos (natural z)) × (natural z ≤ greatest)
inside greatest (pos n) h = (refl, ltb-false _ _ (or_parts _ _ h).1)
inside greatest (negsuc n) h = cc

-- the factor of an accepted boost is from 0 to the greatest score
pub accepted_factor : (schema : Schema) (weight : List ℕ → ℕ) (b : ℕ) (factor : ℤ) (q : Query) → tree_fault schema weight b (boost factor q) ≡ None → (factor ≡ pos (natural factor)) × (natural factor ≤ max_score)
accepted_factor schema weight b factor q h = inside max_score factor (accepted_score_tests schema weight b (boost factor q) h).0

-- so is the constant of an accepted constant score
pub accepted_constant : (schema : Schema) (weight : List ℕ → ℕ) (b : ℕ) (constant : ℤ) (q : Query) → tree_fault schema weight b (const_score constant q) ≡ None → (constant ≡ pos (natural constant)) × (natural constant ≤ max_score)
accepted_constant schema weight b constant q h = inside max_score constant (accepted_score_tests schema weight b (const_score constant q) h).0

-- an accepted tie is from 0 to 1000
pub accepted_tie : (schema : Schema) (weight : List ℕ → ℕ) (b : ℕ) (qs : Queries) (tie : ℤ) → tree_fault schema weight b (disjunction_max qs tie) ≡ None → (tie ≡ pos (natural tie)) × (natural tie ≤ 1000)
accepted_tie schema weight b qs tie h = inside 1000 tie (head_passes (is_outside 1000 tie) faults.BadTieBreaker [] (accepted_passes schema weight b (disjunction_max qs tie) h))

-- ---- accepted children

-- the clauses of an accepted boolean query are accepted
pub accepted_clauses : (schema : Schema) (weight : List ℕ → ℕ) (b : ℕ) (cs : Clauses) (least : ℕ) → tree_fault schema weight b (boolean cs least) ≡ None → clauses_fault schema weight b cs ≡ None
accepted_clauses schema weight b cs least h = second_is_none _ _ h

-- of accepted clauses the first and those after it are accepted
pub accepted_first_clause : (schema : Schema) (weight : List ℕ → ℕ) (b : ℕ) (occur : Occur) (q : Query) (cs : Clauses) → clauses_fault schema weight b (clause occur q cs) ≡ None → tree_fault schema weight b q ≡ None
accepted_first_clause schema weight b occur q cs h = first_is_none _ _ h

-- so are the clauses after it
pub accepted_more_clauses : (schema : Schema) (weight : List ℕ → ℕ) (b : ℕ) (occur : Occur) (q : Query) (cs : Clauses) → clauses_fault schema weight b (clause occur q cs) ≡ None → clauses_fault schema weight b cs ≡ None
accepted_more_clauses schema weight b occur q cs h = second_is_none _ _ h

-- the queries of an accepted dismax are accepted
pub accepted_queries : (schema : Schema) (weight : List ℕ → ℕ) (b : ℕ) (qs : Queries) (tie : ℤ) → tree_fault schema weight b (disjunction_max qs tie) ≡ None → queries_fault schema weight b qs ≡ None
accepted_queries schema weight b qs tie h = second_is_none _ _ h

-- of accepted queries the first and those after it are accepted
pub accepted_first_query : (schema : Schema) (weight : List ℕ → ℕ) (b : ℕ) (q : Query) (qs : Queries) → queries_fault schema weight b (query q qs) ≡ None → tree_fault schema weight b q ≡ None
accepted_first_query schema weight b q qs h = first_is_none _ _ h

-- so are the queries after it
pub accepted_more_queries : (schema : Schema) (weight : List ℕ → ℕ) (b : ℕ) (q : Query) (qs : Queries) → queries_fault schema weight b (query q qs) ≡ None → queries_fault schema weight b qs ≡ None
accepted_more_queries schema weight b q qs h = second_is_none _ _ h

-- the query under an accepted boost is accepted under the product of the boosts
pub accepted_boost : (schema : Schema) (weight : List ℕ → ℕ) (b : ℕ) (factor : ℤ) (q : Query) → tree_fault schema weight b (boost factor q) ≡ None → tree_fault schema weight (b * natural factor) q ≡ None
accepted_boost schema weight b factor q h = second_is_none _ _ h

-- the query under an accepted constant score is accepted
pub accepted_const : (schema : Schema) (weight : List ℕ → ℕ) (b : ℕ) (constant : ℤ) (q : Query) → tree_fault schema weight b (const_score constant q) ≡ None → tree_fault schema weight b q ≡ None
accepted_const schema weight b constant q h = second_is_none _ _ h

-- where a fault or else another is none, the test for it fails
too_deep : (deep : Bool) (o : Option Fault) → (if deep then Some faults.TooDeep else o) ≡ None → deep ≡ false
too_deep true o h = cc
too_deep false o h = refl

-- the fault after that test is none too
not_too_deep : (deep : Bool) (o : Option Fault) → (if deep then Some faults.TooDeep else o) ≡ None → o ≡ None
not_too_deep true o h = cc
not_too_deep false o h = h

-- the tree of a query that isn't refused is accepted
pub accepted_tree : (schema : Schema) (weight : List ℕ → ℕ) (q : Query) → refusal schema weight q ≡ None → tree_fault schema weight 1 q ≡ None
accepted_tree schema weight q h = not_too_deep (nat_lt max_depth (depth q)) (tree_fault schema weight 1 q) h

-- ---- scores

-- a part is not above its weight
pub part_below : (weight count norm : ℕ) → part weight count norm ≤ weight
part_below weight count norm = div-le_of_le-mul (count + norm) (omega arith)

-- the sum after one more number, where it counts
pub sum_counted : (counts : Bool) (n : ℕ) (ns : List ℕ) → sum ((if counts then n ∷ [] else []) ++ ns) ≡ (if counts then n else 0) + sum ns
sum_counted true n ns = sum_by-cons (λ m. m) n ns
sum_counted false n ns = sym (zero-add (sum ns))

-- what counts where it matches is not above the bound of what counts
counted_below : (counts matched : Bool) (n most : ℕ) → n ≤ most → (if counts && matched then n else 0) ≤ (if counts then most else 0)
counted_below true true n most h = h
counted_below true false n most h = zero-le
counted_below false matched n most h = zero-le

-- what counts where it matches is not above a bound of it
matched_below : (matched : Bool) (n most : ℕ) → n ≤ most → (if matched then n else 0) ≤ most
matched_below true n most h = h
matched_below false n most h = zero-le

-- the greatest is not above the sum
pub greatest_below_sum : (ns : List ℕ) → greatest_of ns ≤ sum ns
greatest_below_sum [] = zero-le
greatest_below_sum (n ∷ ns) = rw (sum_by-cons (λ m. m) n ns) (max-le (omega arith) (omega (arith, greatest_below_sum ns)))

-- at most 1000 thousandths of the others give no more than the sum
pub tie_below : (tie : ℕ) (ns : List ℕ) → tie ≤ 1000 → best_and_tie tie ns ≤ sum ns
tie_below tie ns h =
    let others : (sum ns - greatest_of ns) * tie ≤ 1000 * (sum ns - greatest_of ns) = rw (mul_comm 1000 (sum ns - greatest_of ns)) (mul-le-mul_left (sum ns - greatest_of ns) h) in
    let shared = div-le_of_le-mul 1000 others in
    omega (arith, greatest_below_sum ns)

-- a choice is not above that of greater numbers
pub same_choice : (first : Bool) (one n most : ℕ) → n ≤ most → (if first then one else n) ≤ (if first then one else most)
same_choice true one n most h = le_refl one
same_choice false one n most h = h

-- the score of a phrase prefix is not above its bound
prefix_below : (schema : Schema) (analyze : Analyzer) (sim : Similarity) (doc : Document) (whole : Terms) → prefix_score schema analyze sim doc whole ≤ (if length whole == 1 then 1 else weight_sum sim.weight whole)
prefix_below schema analyze sim doc whole = same_choice (length whole == 1) 1 (phrase_score schema analyze sim doc whole 0) (weight_sum sim.weight whole) (part_below (weight_sum sim.weight whole) _ _)

-- a score under boosts is not above its bound
mutual
  pub score_below : (schema : Schema) (analyze : Analyzer) (sim : Similarity) (doc : Document) (b : ℕ) (q : Query) → tree_fault schema sim.weight b q ≡ None → score schema analyze sim doc b q ≤ bound sim.weight b q
  score_below schema analyze sim doc b all h = le_refl b
  score_below schema analyze sim doc b empty h = zero-le
  score_below schema analyze sim doc b (term t option) h = mul-le-mul_left b (part_below (sim.weight t) (query_count schema analyze t option doc) _)
  score_below schema analyze sim doc b (phrase terms slop) h = mul-le-mul_left b (part_below (weight_sum sim.weight terms) (phrase_count schema analyze terms slop doc) _)
  score_below schema analyze sim doc b (phrase_prefix terms limit) h = mul-le-mul_left b (prefix_below schema analyze sim doc (whole_terms terms))
  score_below schema analyze sim doc b (boolean cs least) h = clauses_below schema analyze sim doc b cs (accepted_clauses schema sim.weight b cs least h)
  score_below schema analyze sim doc b (disjunction_max qs tie) h = le_trans (tie_below (natural tie) (query_scores schema analyze sim doc b qs) (accepted_tie schema sim.weight b qs tie h).1) (queries_below schema analyze sim doc b qs (accepted_queries schema sim.weight b qs tie h))
  score_below schema analyze sim doc b (boost factor q) h = score_below schema analyze sim doc (b * natural factor) q (accepted_boost schema sim.weight b factor q h)
  score_below schema analyze sim doc b (const_score constant q) h = le_refl (b * natural constant)

  -- the scores of clauses together are not above their bounds together
  pub clauses_below : (schema : Schema) (analyze : Analyzer) (sim : Similarity) (doc : Document) (b : ℕ) (cs : Clauses) → clauses_fault schema sim.weight b cs ≡ None → sum (clause_scores schema analyze sim doc b cs) ≤ clauses_bound sim.weight b cs
  clauses_below schema analyze sim doc b no_clauses h = zero-le
  clauses_below schema analyze sim doc b (clause occur q cs) h =
      rw (sum_counted (is_counted occur && matches schema analyze doc q) (score schema analyze sim doc b q) (clause_scores schema analyze sim doc b cs))
      (add-le-add (counted_below (is_counted occur) (matches schema analyze doc q) (score schema analyze sim doc b q) (bound sim.weight b q) (score_below schema analyze sim doc b q (accepted_first_clause schema sim.weight b occur q cs h))) (clauses_below schema analyze sim doc b cs (accepted_more_clauses schema sim.weight b occur q cs h)))

  -- so are those of queries
  pub queries_below : (schema : Schema) (analyze : Analyzer) (sim : Similarity) (doc : Document) (b : ℕ) (qs : Queries) → queries_fault schema sim.weight b qs ≡ None → sum (query_scores schema analyze sim doc b qs) ≤ queries_bound sim.weight b qs
  queries_below schema analyze sim doc b no_queries h = zero-le
  queries_below schema analyze sim doc b (query q qs) h =
      rw (sum_counted (matches schema analyze doc q) (score schema analyze sim doc b q) (query_scores schema analyze sim doc b qs))
      (add-le-add (matched_below (matches schema analyze doc q) (score schema analyze sim doc b q) (bound sim.weight b q) (score_below schema analyze sim doc b q (accepted_first_query schema sim.weight b q qs h))) (queries_below schema analyze sim doc b qs (accepted_more_queries schema sim.weight b q qs h)))

-- a field with a name is one of the schema
pub within_if : (schema : Schema) (field : ℕ) (name : List ℕ) (o : Option Entry) → slice_get schema field ≡ o → option_map (λ e. e.name) o ≡ Some name → field < length schema
within_if schema field name (Some e) is named = slice_get_within schema field e is
within_if schema field name None is named = absurd (none-some name named)

-- equal numbers
pub same_at : (a b : ℕ) → a ≡ b → nat_cmp a b ≡ Equal
same_at a b same = sym (nat_cmp_is a b Equal same)

-- a number that is not negative is its size
pub not_negative : (b : ℤ) → pos 0 ≤ℤ b → nat_abs b ≡ natural b
not_negative (pos n) positive = refl
not_negative (negsuc n) positive = absurd (omega (arith, ints, positive))

-- a field with a name is one of the schema, by the names
pub named_within : (schema : Schema) (field : ℕ) (name : List ℕ) → option_map (λ e. e.name) (slice_get schema field) ≡ Some name → field < length schema
named_within schema field name named = within_if schema field name (slice_get schema field) refl named
