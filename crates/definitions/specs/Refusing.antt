-- Which queries are refused, and by what.
use Rattle.std.specs.Prelude.{[], ◌&&◌, ◌*◌, ◌++◌, ◌+◌, ◌==◌, ◌^◌, ◌||◌, ◌∷◌, Bool, List, None, Option, Some, false, if◌then◌else◌, int_lt, is_none, length, map, nat_le, nat_lt, not, pos, ℕ, ℤ}
use Rattle.std.specs.List.{list_any}
use Rattle.std.specs.Option.{option_or}
use Rattle.definitions.specs.Matching.{is_counted}
use Rattle.definitions.specs.Phrases.{whole_terms}
use Rattle.definitions.specs.Query.{Clauses, Queries, Query, Terms, all, boolean, boost, clause, const_score, depth, disjunction_max, empty, no_clauses, no_queries, phrase, phrase_prefix, query, term}
use Rattle.definitions.specs.Schema.{Schema, field_has, has_positions, is_indexed, json_kind}
use Rattle.definitions.specs.Scoring.{max_score, natural, weight_sum}
use Rattle.definitions.specs.Terms.{field_of, has_kind, inner_kind, is_text_term}
use Rattle.definitions.specs.declared.fault.Fault.{Fault}
use Rattle.definitions.specs.declared.fault.Fault.TheVariants as faults

-- ---- bounds: no score is above them

abbrev mutual
  pub bound : (List ℕ → ℕ) → ℕ → Query → ℕ
  bound weight b all = b
  bound weight b empty = 0
  bound weight b (term t option) = b * weight t
  bound weight b (phrase terms slop) = b * weight_sum weight terms
  bound weight b (phrase_prefix terms limit) = b * (if length (whole_terms terms) == 1 then 1 else weight_sum weight (whole_terms terms))
  bound weight b (boolean cs least) = clauses_bound weight b cs
  bound weight b (disjunction_max qs tie) = queries_bound weight b qs
  bound weight b (boost factor q) = bound weight (b * natural factor) q
  bound weight b (const_score constant q) = b * natural constant

  pub clauses_bound : (List ℕ → ℕ) → ℕ → Clauses → ℕ
  clauses_bound weight b no_clauses = 0
  clauses_bound weight b (clause occur q cs) = (if is_counted occur then bound weight b q else 0) + clauses_bound weight b cs

  pub queries_bound : (List ℕ → ℕ) → ℕ → Queries → ℕ
  queries_bound weight b no_queries = 0
  queries_bound weight b (query q qs) = bound weight b q + queries_bound weight b qs

-- ---- the tests of a term

-- whether the schema lacks the field of a term
abbrev pub is_unknown : Schema → List ℕ → Bool
is_unknown schema t = nat_le (length schema) (field_of t)

-- whether the field of a term is not indexed
abbrev pub is_not_indexed : Schema → List ℕ → Bool
is_not_indexed schema t = not (field_has is_indexed schema (field_of t))

-- another kind than the field's, or in a JSON term no known kind after its path
abbrev pub is_mismatched : Schema → List ℕ → Bool
is_mismatched schema t = not (field_has (λ e. has_kind e.kind t) schema (field_of t)) || (has_kind json_kind t && is_none (inner_kind t))

-- whether the field of a term records no positions
abbrev pub has_no_positions : Schema → List ℕ → Bool
has_no_positions schema t = not (field_has (λ e. has_positions e.record_option) schema (field_of t))

-- ---- the tests of a node, in the order in which they are made

-- a test that fails, and what it is refused by
abbrev pub Test : Type 0
Test = Bool × Fault

-- the tests of a node's terms
abbrev pub term_tests : Schema → List (List ℕ) → List Test
term_tests schema ts = (list_any (is_unknown schema) ts, faults.UnknownField) ∷ (list_any (is_not_indexed schema) ts, faults.NotIndexed) ∷ (list_any (is_mismatched schema) ts, faults.TypeMismatch) ∷ []

-- the greatest offset of a term in a phrase
abbrev pub max_offset : ℕ
max_offset = 2 ^ 30

-- the tests of a phrase's terms, beside those of all terms
abbrev pub phrase_tests : Schema → Terms → List Test
phrase_tests schema terms = (list_any (λ t. has_no_positions schema t.1) terms, faults.NoPositions) ∷ (list_any (λ t. not (is_text_term t.1)) terms, faults.NotText) ∷ (list_any (λ t. nat_lt max_offset t.0) terms, faults.OffsetTooLarge) ∷ []

-- the limit of expansions that leaves none out
abbrev pub all_expansions : ℕ
all_expansions = 4294967295

-- whether a number is below 0 or above the greatest
abbrev pub is_outside : ℕ → ℤ → Bool
is_outside greatest z = int_lt z (pos 0) || int_lt (pos greatest) z

-- the tests of a node that aren't about its score
abbrev pub own_tests : Schema → Query → List Test
own_tests schema (term t option) = term_tests schema (t ∷ [])
own_tests schema (phrase terms slop) = term_tests schema (map (λ t. t.1) terms) ++ phrase_tests schema terms
own_tests schema (phrase_prefix terms limit) = term_tests schema (map (λ t. t.1) terms) ++ phrase_tests schema terms ++ ((nat_lt (length terms) 2, faults.NoWholeTerm) ∷ (nat_lt limit all_expansions, faults.PartialExpansion) ∷ [])
own_tests schema (disjunction_max qs tie) = (is_outside 1000 tie, faults.BadTieBreaker) ∷ []
own_tests schema _ = []

-- the product of the boosts down to a node, itself included
abbrev pub product : ℕ → Query → ℕ
product b (boost factor q) = b * natural factor
product b _ = b

-- whether a boost or constant is out of range
abbrev pub is_bad_factor : Query → Bool
is_bad_factor (boost factor q) = is_outside max_score factor
is_bad_factor (const_score constant q) = is_outside max_score constant
is_bad_factor _ = false

-- whether a factor, the product of boosts or the bound of a node is too large
abbrev pub is_score_too_large : (List ℕ → ℕ) → ℕ → Query → Bool
is_score_too_large weight b q = is_bad_factor q || nat_lt max_score (product b q) || nat_lt max_score (bound weight b q)

-- the fault of the first test that fails
abbrev pub first_fault : List Test → Option Fault
first_fault [] = None
first_fault (t ∷ ts) = if t.0 then Some t.1 else first_fault ts

-- what a node by itself is refused by, under the product of the boosts above
unfoldable pub node_fault : Schema → (List ℕ → ℕ) → ℕ → Query → Option Fault
node_fault schema weight b q = first_fault (own_tests schema q ++ ((is_score_too_large weight b q, faults.ScoreTooLarge) ∷ []))

-- a node is tested before its children, and a child with all below it before the next
abbrev mutual
  pub tree_fault : Schema → (List ℕ → ℕ) → ℕ → Query → Option Fault
  tree_fault schema weight b (boolean cs least) = option_or (node_fault schema weight b (boolean cs least)) (clauses_fault schema weight b cs)
  tree_fault schema weight b (disjunction_max qs tie) = option_or (node_fault schema weight b (disjunction_max qs tie)) (queries_fault schema weight b qs)
  tree_fault schema weight b (boost factor q) = option_or (node_fault schema weight b (boost factor q)) (tree_fault schema weight (b * natural factor) q)
  tree_fault schema weight b (const_score constant q) = option_or (node_fault schema weight b (const_score constant q)) (tree_fault schema weight b q)
  tree_fault schema weight b q = node_fault schema weight b q

  pub clauses_fault : Schema → (List ℕ → ℕ) → ℕ → Clauses → Option Fault
  clauses_fault schema weight b no_clauses = None
  clauses_fault schema weight b (clause occur q cs) = option_or (tree_fault schema weight b q) (clauses_fault schema weight b cs)

  pub queries_fault : Schema → (List ℕ → ℕ) → ℕ → Queries → Option Fault
  queries_fault schema weight b no_queries = None
  queries_fault schema weight b (query q qs) = option_or (tree_fault schema weight b q) (queries_fault schema weight b qs)

-- the most nodes on a path
abbrev pub max_depth : ℕ
max_depth = 64

-- what a query is refused by: its depth first, then its tree
abbrev pub refusal : Schema → (List ℕ → ℕ) → Query → Option Fault
refusal schema weight q = if nat_lt max_depth (depth q) then Some faults.TooDeep else tree_fault schema weight 1 q
