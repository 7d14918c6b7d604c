-- In which order the nodes of a query are tested, and which fault comes before which.
use Rattle.std.specs.Prelude.{[], ◌*◌, ◌++◌, ◌∷◌, List, None, Option, ℕ}
use Rattle.std.specs.Option.{option_or}
use Rattle.definitions.specs.Query.{Clauses, Queries, Query, all, boolean, boost, clause, const_score, disjunction_max, empty, no_clauses, no_queries, phrase, phrase_prefix, query, term}
use Rattle.definitions.specs.Refusing.{Test, is_score_too_large, node_fault, own_tests}
use Rattle.definitions.specs.Schema.{Schema}
use Rattle.definitions.specs.Scoring.{natural}
use Rattle.definitions.specs.declared.fault.Fault.{Fault}
use Rattle.definitions.specs.declared.fault.Fault.TheVariants as faults

-- the nodes of a query, each with the product of the boosts above it: outer before inner, and a child with all below it
-- before the next
abbrev mutual
  pub nodes_of : ℕ → Query → List (ℕ × Query)
  nodes_of b (boolean cs least) = (b, boolean cs least) ∷ nodes_of_clauses b cs
  nodes_of b (disjunction_max qs tie) = (b, disjunction_max qs tie) ∷ nodes_of_queries b qs
  nodes_of b (boost factor q) = (b, boost factor q) ∷ nodes_of (b * natural factor) q
  nodes_of b (const_score constant q) = (b, const_score constant q) ∷ nodes_of b q
  nodes_of b all = (b, all) ∷ []
  nodes_of b empty = (b, empty) ∷ []
  nodes_of b (term t option) = (b, term t option) ∷ []
  nodes_of b (phrase terms slop) = (b, phrase terms slop) ∷ []
  nodes_of b (phrase_prefix terms limit) = (b, phrase_prefix terms limit) ∷ []

  pub nodes_of_clauses : ℕ → Clauses → List (ℕ × Query)
  nodes_of_clauses b no_clauses = []
  nodes_of_clauses b (clause occur q cs) = nodes_of b q ++ nodes_of_clauses b cs

  pub nodes_of_queries : ℕ → Queries → List (ℕ × Query)
  nodes_of_queries b no_queries = []
  nodes_of_queries b (query q qs) = nodes_of b q ++ nodes_of_queries b qs

-- what the first of the nodes that are refused by themselves is refused by
abbrev pub first_refused : Schema → (List ℕ → ℕ) → List (ℕ × Query) → Option Fault
first_refused schema weight [] = None
first_refused schema weight (n ∷ ns) = option_or (node_fault schema weight n.0 n.1) (first_refused schema weight ns)

-- all tests of a node
abbrev pub node_tests : Schema → (List ℕ → ℕ) → ℕ → Query → List Test
node_tests schema weight b q = own_tests schema q ++ ((is_score_too_large weight b q, faults.ScoreTooLarge) ∷ [])

-- the rank of a fault among those of a node
abbrev pub order_of : Fault → ℕ
order_of faults.UnknownField = 0
order_of faults.NotIndexed = 1
order_of faults.TypeMismatch = 2
order_of faults.NoPositions = 3
order_of faults.NotText = 4
order_of faults.OffsetTooLarge = 5
order_of faults.NoWholeTerm = 6
order_of faults.PartialExpansion = 7
order_of faults.BadTieBreaker = 8
order_of faults.ScoreTooLarge = 9
order_of _ = 10
