-- The first node and the first fault.
use Rattle.std.proofs.Common.{[], List, None, Option, Some, ap, arith, false, le_trans, refl, rules, sym, true, ◌*◌, ◌++◌, ◌∙◌, ◌∷◌, ◌≡◌, ◌≤◌, ℕ}
use Rattle.std.specs.List.{AllByRecursion}
use Rattle.std.specs.Option.{option_or}
use Rattle.definitions.specs.Query.{Clauses, Queries, Query, all, boolean, boost, clause, const_score, disjunction_max, empty, no_clauses, no_queries, phrase, phrase_prefix, query, term}
use Rattle.definitions.specs.Refusing.{Test, clauses_fault, first_fault, node_fault, queries_fault, tree_fault}
use Rattle.definitions.specs.Schema.{Schema}
use Rattle.definitions.specs.Scoring.{natural}
use Rattle.definitions.specs.declared.fault.Fault.{Fault}
use Rattle.query_checks.specs.Orders.{first_refused, node_tests, nodes_of, nodes_of_clauses, nodes_of_queries, order_of}

-- ---- nodes

or_none : (o : Option Fault) → option_or o None ≡ o
or_none None = refl
or_none (Some fault) = refl

or_assoc : (o p r : Option Fault) → option_or (option_or o p) r ≡ option_or o (option_or p r)
or_assoc None p r = refl
or_assoc (Some fault) p r = refl

module _ (schema : Schema) (weight : List ℕ → ℕ) where
  first_refused-append : (ns ms : List (ℕ × Query)) → first_refused schema weight (ns ++ ms) ≡ option_or (first_refused schema weight ns) (first_refused schema weight ms)
  first_refused-append [] ms = refl
  first_refused-append (n ∷ ns) ms =
      ap (option_or (node_fault schema weight n.0 n.1)) (first_refused-append ns ms)
      ∙ sym (or_assoc (node_fault schema weight n.0 n.1) (first_refused schema weight ns) (first_refused schema weight ms))

  mutual
    pub tree_by_nodes : (b : ℕ) (q : Query) → tree_fault schema weight b q ≡ first_refused schema weight (nodes_of b q)
    tree_by_nodes b (boolean cs least) = ap (option_or (node_fault schema weight b (boolean cs least))) (clauses_by_nodes b cs)
    tree_by_nodes b (disjunction_max qs tie) = ap (option_or (node_fault schema weight b (disjunction_max qs tie))) (queries_by_nodes b qs)
    tree_by_nodes b (boost factor q) = ap (option_or (node_fault schema weight b (boost factor q))) (tree_by_nodes (b * natural factor) q)
    tree_by_nodes b (const_score constant q) = ap (option_or (node_fault schema weight b (const_score constant q))) (tree_by_nodes b q)
    tree_by_nodes b all = sym (or_none _)
    tree_by_nodes b empty = sym (or_none _)
    tree_by_nodes b (term t option) = sym (or_none _)
    tree_by_nodes b (phrase terms slop) = sym (or_none _)
    tree_by_nodes b (phrase_prefix terms limit) = sym (or_none _)

    clauses_by_nodes : (b : ℕ) (cs : Clauses) → clauses_fault schema weight b cs ≡ first_refused schema weight (nodes_of_clauses b cs)
    clauses_by_nodes b no_clauses = refl
    clauses_by_nodes b (clause occur q cs) =
        ap (λ o. option_or o (clauses_fault schema weight b cs)) (tree_by_nodes b q)
        ∙ ap (option_or (first_refused schema weight (nodes_of b q))) (clauses_by_nodes b cs)
        ∙ sym (first_refused-append (nodes_of b q) (nodes_of_clauses b cs))

    queries_by_nodes : (b : ℕ) (qs : Queries) → queries_fault schema weight b qs ≡ first_refused schema weight (nodes_of_queries b qs)
    queries_by_nodes b no_queries = refl
    queries_by_nodes b (query q qs) =
        ap (λ o. option_or o (queries_fault schema weight b qs)) (tree_by_nodes b q)
        ∙ ap (option_or (first_refused schema weight (nodes_of b q))) (queries_by_nodes b qs)
        ∙ sym (first_refused-append (nodes_of b q) (nodes_of_queries b qs))

-- ---- tests

-- from a rank on, no test's fault comes before that of the test before it
abbrev Rise : ℕ → List Test → Type 0
Rise least [] = Unit {0}
Rise least (t ∷ ts) = (least ≤ order_of t.1) × Rise (order_of t.1) ts

-- then none comes before the rank
all_after : (least : ℕ) (ts : List Test) (lower : ℕ) → lower ≤ least → Rise least ts → AllByRecursion (λ t. t.0 ≡ true → lower ≤ order_of t.1) ts
all_after least [] lower l rise = tt
all_after least (t ∷ ts) lower l rise = ((λ h. le_trans l rise.0), all_after (order_of t.1) ts lower (le_trans l rise.0) rise.1)

first_told : (least : ℕ) (ts : List Test) (fault : Fault) → Rise least ts → first_fault ts ≡ Some fault → AllByRecursion (λ t. t.0 ≡ true → order_of fault ≤ order_of t.1) ts
first_told least [] fault rise h = tt
first_told least ((true, other) ∷ ts) fault rise h =
    let same : order_of fault ≡ order_of other = ap (λ o. elim o [ None ↦ order_of fault | Some f ↦ order_of f ]) (sym h) in
    ((λ k. omega (arith, same)), all_after (order_of other) ts (order_of fault) (omega (arith, same)) rise.1)
first_told least ((false, other) ∷ ts) fault rise h = ((λ k. cc), first_told (order_of other) ts fault rise.1 h)

none_told : (ts : List Test) → first_fault ts ≡ None → AllByRecursion (λ t. t.0 ≡ false) ts
none_told [] h = tt
none_told ((true, other) ∷ ts) h = cc
none_told ((false, other) ∷ ts) h = (refl, none_told ts h)

-- the tests of a node are in order
rises : (schema : Schema) (weight : List ℕ → ℕ) (b : ℕ) (q : Query) → Rise 0 (node_tests schema weight b q)
rises schema weight b all = search rules
rises schema weight b empty = search rules
rises schema weight b (term t option) = search rules
rises schema weight b (phrase terms slop) = search rules
rises schema weight b (phrase_prefix terms limit) = search rules
rises schema weight b (boolean cs least) = search rules
rises schema weight b (disjunction_max qs tie) = search rules
rises schema weight b (boost factor q) = search rules
rises schema weight b (const_score constant q) = search rules

pub fault_is_first : (schema : Schema) (weight : List ℕ → ℕ) (b : ℕ) (q : Query) (fault : Fault) → node_fault schema weight b q ≡ Some fault → AllByRecursion (λ t. t.0 ≡ true → order_of fault ≤ order_of t.1) (node_tests schema weight b q)
unfolding node_fault
fault_is_first schema weight b q fault h = first_told 0 (node_tests schema weight b q) fault (rises schema weight b q) h

pub all_pass : (schema : Schema) (weight : List ℕ → ℕ) (b : ℕ) (q : Query) → node_fault schema weight b q ≡ None → AllByRecursion (λ t. t.0 ≡ false) (node_tests schema weight b q)
unfolding node_fault
all_pass schema weight b q h = none_told (node_tests schema weight b q) h
